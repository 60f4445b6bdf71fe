-- A scan goes on within its machine, and leaves fewer words to be loaded.
use Rattle.act_fits.proofs.Common.{◌≡◌, ℕ, ◌≢◌, nat_lt, if◌then◌else◌, ◌+◌, ◌-◌, ◌<◌, ◌≤◌, ◌==◌, Bool, true, false, Option, Some, None}
use Rattle.act_fits.proofs.Common.{IfSome, refl, sym, ap, subst, arith, ltb-true, ltb-false, eqb-true, eqb-false, Reply, Shape, Quiet}
use Rattle.act_fits.proofs.Common.{AtCore, AtFlush, QuietFits, first_other, next_other, core_scan, quiet_scan, quiet_refuses, scan_end}
use Rattle.act_fits.proofs.Common.{scan_after, quiet_end, quiet_after, IsUnpaged, ScanFits, left_of_cores, left_of_scan, StageEnd}

-- A scan of the other cores' words alone stays so.
unpaged_scan : (there : Bool) (stamp core at : ℕ) → IfSome (core_scan there stamp core at false) IsUnpaged
unpaged_scan true stamp core at = refl
unpaged_scan false stamp core at = tt

pub scan_unpaged : (stamp core cores : ℕ) → IfSome (quiet_scan stamp core cores false) IsUnpaged
scan_unpaged stamp core cores = by (stamp == 0)
  where
    by : (none : Bool) → IfSome (if none then None else core_scan (nat_lt (first_other core) cores) stamp core (first_other core) false)
        IsUnpaged
    by true = tt
    by false = unpaged_scan (nat_lt (first_other core) cores) stamp core (first_other core)

pub still_unpaged : (cores : ℕ) (q : Quiet) (found : ℕ) → IsUnpaged q → quiet_end cores q found ≡ StageEnd.Going
    → IsUnpaged (quiet_after cores q found)
still_unpaged cores (AtFlush stamp at) found alone is = absurd alone
still_unpaged cores (AtCore stamp core at page) found alone is =
    by (quiet_refuses (AtCore stamp core at page) found) (nat_lt (next_other core at) cores) page alone is
  where
    by : (refused : Option Reply) (there page : Bool) → page ≡ false
        → scan_end refused (core_scan there stamp core (next_other core at) page) ≡ StageEnd.Going
        → IsUnpaged (scan_after (AtCore stamp core at page) refused (core_scan there stamp core (next_other core at) page))
    by None true page alone is = alone
    by None false true alone is = absurd (cc)
    by _ _ _ alone is = absurd (cc)

module _ (s : Shape) where
  -- a scan goes on to the next core, to the flush words, or to the act
  core_left : (core at : ℕ) → core < s.cores → at < s.cores → 1 ≤ left_of_cores s.cores core at
  core_left core at here below = by (nat_lt at core) refl
    where
      by : (b : Bool) → nat_lt at core ≡ b → 1 ≤ (if b then s.cores - at - 1 else s.cores - at)
      by true is = let l = ltb-true at core is in let h = here in omega arith
      by false is = let h = below in omega arith

  with_more : (x y more : ℕ) → x < y → x + more < y + more
  with_more x y more less = omega arith

  flushes_fewer : (x cores : ℕ) → 1 ≤ x → cores - 0 < x + cores
  flushes_fewer x cores some = omega arith

  pub scan_goes : (q : Quiet) (found : ℕ) → QuietFits s q → ScanFits s q → quiet_end s.cores q found ≡ StageEnd.Going
      → QuietFits s (quiet_after s.cores q found) × ScanFits s (quiet_after s.cores q found)
      × (left_of_scan s.cores (quiet_after s.cores q found) < left_of_scan s.cores q)
  scan_goes (AtFlush stamp at) found quiet fits is =
      by (quiet_refuses (AtFlush stamp at) found) (nat_lt (at + 1) s.cores) refl is
    where
      by : (refused : Option Reply) (there : Bool) → nat_lt (at + 1) s.cores ≡ there
          → scan_end refused (if there then Some (AtFlush stamp (at + 1)) else None) ≡ StageEnd.Going
          → QuietFits s (scan_after (AtFlush stamp at) refused (if there then Some (AtFlush stamp (at + 1)) else None))
          × ScanFits s (scan_after (AtFlush stamp at) refused (if there then Some (AtFlush stamp (at + 1)) else None))
          × (left_of_scan s.cores
          (scan_after (AtFlush stamp at) refused (if there then Some (AtFlush stamp (at + 1)) else None)) < s.cores - at)
      by None true below is = let l = ltb-true (at + 1) s.cores below in (l, fits, omega (arith, l))
      by _ _ below is = absurd (cc)
  scan_goes (AtCore stamp core at page) found quiet fits is =
      by (quiet_refuses (AtCore stamp core at page) found) (nat_lt (next_other core at) s.cores) refl page is
    where
      left_is : (n : ℕ) → ℕ
      left_is n = if nat_lt n core then s.cores - n - 1 else s.cores - n

      fewer : (less next one : Bool) → nat_lt at core ≡ less → nat_lt (next_other core at) core ≡ next → (at + 1 == core) ≡ one
          → next_other core at < s.cores → left_is (next_other core at) < left_is at
      fewer less next one a b d below =
          subst (λ x. (if x then s.cores - next_other core at - 1 else s.cores - next_other core at) < left_is at)
          (sym b)
          (subst (λ x. (if next then s.cores - next_other core at - 1 else s.cores - next_other core at) <
          (if x then s.cores - at - 1 else s.cores - at)) (sym a) (go less next one a b d below))
        where
          go : (less next one : Bool) → nat_lt at core ≡ less → nat_lt (next_other core at) core ≡ next → (at + 1 == core) ≡ one
              → next_other core at < s.cores
              → (if next then s.cores - next_other core at - 1 else s.cores - next_other core at) <
              (if less then s.cores - at - 1 else s.cores - at)
          go true true true a b d below =
              let n : next_other core at ≡ at + 2 = ap (λ x. if x then at + 2 else at + 1) d in
              let e = eqb-true (at + 1) core d in
              let l = ltb-true (next_other core at) core b in absurd (omega arith)
          go true true false a b d below =
              let n : next_other core at ≡ at + 1 = ap (λ x. if x then at + 2 else at + 1) d in
              let l = ltb-true (next_other core at) core b in
              let here = fits.0 in omega arith
          go true false true a b d below = let n : next_other core at ≡ at + 2 = ap (λ x. if x then at + 2 else at + 1) d in omega arith
          go true false false a b d below =
              let n : next_other core at ≡ at + 1 = ap (λ x. if x then at + 2 else at + 1) d in
              let e = eqb-false (at + 1) core d in
              let l = ltb-true at core a in
              let m = ltb-false (next_other core at) core b in absurd (e (omega arith))
          go false next one a b d below = go_far next one b d
            where
              l : core ≤ at
              l = ltb-false at core a

              go_far : (next one : Bool) → nat_lt (next_other core at) core ≡ next → (at + 1 == core) ≡ one
                  → (if next then s.cores - next_other core at - 1 else s.cores - next_other core at) < s.cores
                  - at
              go_far next true b d = let e = eqb-true (at + 1) core d in let m = l in absurd (omega arith)
              go_far true false b d =
                  let n : next_other core at ≡ at + 1 = ap (λ x. if x then at + 2 else at + 1) d in
                  let k = ltb-true (next_other core at) core b in let m = l in absurd (omega arith)
              go_far false false b d = let n : next_other core at ≡ at + 1 = ap (λ x. if x then at + 2 else at + 1) d in omega arith

      apart : (one : Bool) → (at + 1 == core) ≡ one → next_other core at ≢ core
      apart true d = let n : next_other core at ≡ at + 2 =
          ap (λ x. if x then at + 2 else at + 1) d in let e = eqb-true (at + 1) core d in omega arith
      apart false d = let n : next_other core at ≡ at + 1 =
          ap (λ x. if x then at + 2 else at + 1) d in let e = eqb-false (at + 1) core d in λ h. e (omega arith)

      by : (refused : Option Reply) (there : Bool) → nat_lt (next_other core at) s.cores ≡ there → (page : Bool)
          → scan_end refused (core_scan there stamp core (next_other core at) page) ≡ StageEnd.Going
          → QuietFits s (scan_after (AtCore stamp core at page) refused (core_scan there stamp core (next_other core at) page))
          × ScanFits s (scan_after (AtCore stamp core at page) refused (core_scan there stamp core (next_other core at) page))
          × (left_of_scan s.cores (scan_after (AtCore stamp core at page) refused
          (core_scan there stamp core (next_other core at) page)) < left_is at + (if page then s.cores else 0))
      by None true below page is =
          let in_machine = ltb-true (next_other core at) s.cores below in (
            (in_machine, apart (at + 1 == core) refl),
            (fits.0, fits.1),
            with_more (left_is (next_other core at)) (left_is at) (if page then s.cores else 0)
                (fewer (nat_lt at core) (nat_lt (next_other core at) core) (at + 1 == core) refl refl refl in_machine),
          )
      by None false below true is =
          let here = fits.0 in
          let some = core_left core at fits.0 quiet.0 in
          (omega (arith, here), fits.1, flushes_fewer (left_is at) s.cores some)
      by _ _ below _ is = absurd (cc)

  pub scan_left : (q : Quiet) → QuietFits s q → ScanFits s q → 1 ≤ left_of_scan s.cores q
  scan_left (AtFlush stamp at) quiet fits = let h : at < s.cores = quiet in omega arith
  scan_left (AtCore stamp core at page) quiet fits = let some = core_left core at fits.0 quiet.0 in omega (arith, some)
