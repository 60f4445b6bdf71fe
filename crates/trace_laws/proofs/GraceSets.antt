-- What a step makes of the four sets of one grace period, at one core.
use Rattle.found_stays.specs.kernel_rules.proofs.{◌≡◌, ◌≢◌, ℕ, ◌<◌, ◌≤◌, arith, Bool, true, false, cond, refl, ◌∙◌, ap, Option, Some, None}
use Rattle.found_stays.specs.kernel_rules.proofs.{false≢true, Reply, Grace, put, passed, put_same, put_other}
use Rattle.boot_words.specs.kernel_history.specs.Graces.{Fits, FitsFlush}

-- Whether a core is in each of the four sets.
pub record Sets : Type 0 where
  pub waits : Bool
  pub not_passed : Bool
  pub unflushed : Bool
  pub unknown : Bool

abbrev pub sets_of : Grace → ℕ → Sets
sets_of g c = record { waits = g.waits c; not_passed = g.not_passed c; unflushed = g.unflushed c; unknown = g.flush_unknown c }

abbrev pub sets_new : Bool → Bool → Sets
sets_new inside needs = record { waits = inside; not_passed = true; unflushed = needs; unknown = needs }

abbrev pub sets_none : Sets
sets_none = record { waits = false; not_passed = false; unflushed = false; unknown = false }

abbrev pub sets_flushed : Sets → Sets
sets_flushed k = record k { unflushed = false }

abbrev pub sets_passed : Sets → Sets
sets_passed k = record {
  waits = false;
  not_passed = cond k.waits k.not_passed false;
  unflushed = k.unflushed;
  unknown = cond k.unflushed k.unknown false;
}

-- The sets go with the stamps: both kinds.
pub record FitsAll (k : Sets) (inside : Bool) (exit : ℕ) (awaits : Bool) (decided stored at : ℕ) : Type 0 where
  pub fits : Fits k.waits k.not_passed inside exit at
  pub flushes : FitsFlush awaits k.unflushed k.unknown decided stored at

-- A grace period begins.
pub fits_new : (i i' n : Bool) (exit decided stored at : ℕ) → (i ≡ true → i' ≡ true) → exit ≤ at → decided ≤ at
    → FitsAll (sets_new i n) i' exit n decided stored at
fits_new i i' n exit decided stored at inside low early = record {
  fits = record { is_in = inside; early = λ h. low; is_left = λ some h. refl };
  flushes = record { awaited = λ h. h; early = λ h. early; is_unflushed = λ h low. h; is_unknown = λ h low. h };
}

-- It ends.
pub fits_none : (i : Bool) (exit decided stored at : ℕ) → at ≡ 0 → FitsAll sets_none i exit false decided stored at
fits_none i exit decided stored at nothing = record {
  fits = record {
    is_in = λ h. absurd (false≢true h);
    early = λ h. absurd (false≢true h);
    is_left = λ some h. absurd (omega (arith, some, nothing));
  };
  flushes = record {
    awaited = λ h. absurd (false≢true h);
    early = λ h. absurd (false≢true h);
    is_unflushed = λ h low. absurd (false≢true h);
    is_unknown = λ h low. absurd (false≢true h);
  };
}

-- It stays, while the core's last exit and flush stay.
pub fits_kept : (k : Sets) (i i' a : Bool) (exit decided stored stored' at : ℕ) → (i ≡ true → i' ≡ true) → stored ≤ stored'
    → FitsAll k i exit a decided stored at → FitsAll k i' exit a decided stored' at
fits_kept k i i' a exit decided stored stored' at inside rises h = record {
  fits = record { is_in = λ w. inside (h.fits.is_in w); early = h.fits.early; is_left = h.fits.is_left };
  flushes = record {
    awaited = h.flushes.awaited;
    early = h.flushes.early;
    is_unflushed = h.flushes.is_unflushed;
    is_unknown = λ needs low. h.flushes.is_unknown needs (omega (arith, rises, low));
  };
}

-- The core flushes.
pub fits_flushed : (k : Sets) (i i' a : Bool) (exit decided decided' stored stored' at : ℕ)
    → (i ≡ true → i' ≡ true) → stored ≤ stored' → at < decided'
    → FitsAll k i exit a decided stored at → FitsAll (sets_flushed k) i' exit a decided' stored' at
fits_flushed k i i' a exit decided decided' stored stored' at inside rises past h = record {
  fits = record { is_in = λ w. inside (h.fits.is_in w); early = h.fits.early; is_left = h.fits.is_left };
  flushes = record {
    awaited = λ h. absurd (false≢true h);
    early = λ h. absurd (false≢true h);
    is_unflushed = λ needs low. absurd (omega (arith, past, low));
    is_unknown = λ needs low. h.flushes.is_unknown needs (omega (arith, rises, low));
  };
}

-- The core returns, with a later exit at which it waited for what began since, and with its last flush stored.
pub fits_passed : (k : Sets) (i i' a : Bool) (exit exit' decided stored stored' at : ℕ)
    → (exit' ≤ at → k.waits ≡ true) → decided ≤ stored' → stored ≤ decided
    → FitsAll k i exit a decided stored at → FitsAll (sets_passed k) i' exit' a decided stored' at
fits_passed k i i' a exit exit' decided stored stored' at stays kept rises h = record {
  fits = record {
    is_in = λ w. absurd (false≢true w);
    early = λ w. absurd (false≢true w);
    is_left = λ some low.
        let waits : k.waits ≡ true = stays low in
        ap (λ b. cond b k.not_passed false) waits ∙ h.fits.is_left some (h.fits.early waits);
  };
  flushes = record {
    awaited = h.flushes.awaited;
    early = h.flushes.early;
    is_unflushed = h.flushes.is_unflushed;
    is_unknown = λ needs low.
        let unflushed : k.unflushed ≡ true = h.flushes.is_unflushed needs (omega (arith, kept, low)) in
        ap (λ b. cond b k.unknown false) unflushed ∙ h.flushes.is_unknown needs (omega (arith, kept, rises, low));
  };
}

-- A grace period after a step that may return.
abbrev pub left_of : Option Reply → ℕ → Grace → Grace
left_of None c g = g
left_of (Some r) c g = passed c g

pub left_other : (q : Option Reply) (c d : ℕ) (g : Grace) → d ≢ c → sets_of (left_of q c g) d ≡ sets_of g d
left_other None c d g other = refl
left_other (Some r) c d g other = rw (put_other g.waits c false d other, not_passed (g.waits c), unknown (g.unflushed c)) refl
  where
    not_passed : (b : Bool) → (cond b g.not_passed (put g.not_passed c false)) d ≡ g.not_passed d
    not_passed true = refl
    not_passed false = put_other g.not_passed c false d other

    unknown : (b : Bool) → (cond b g.flush_unknown (put g.flush_unknown c false)) d ≡ g.flush_unknown d
    unknown true = refl
    unknown false = put_other g.flush_unknown c false d other

pub passed_own : (c : ℕ) (g : Grace) → sets_of (passed c g) c ≡ sets_passed (sets_of g c)
passed_own c g = rw (put_same g.waits c false c refl, not_passed (g.waits c), unknown (g.unflushed c)) refl
  where
    not_passed : (b : Bool) → (cond b g.not_passed (put g.not_passed c false)) c ≡ cond b (g.not_passed c) false
    not_passed true = refl
    not_passed false = put_same g.not_passed c false c refl

    unknown : (b : Bool) → (cond b g.flush_unknown (put g.flush_unknown c false)) c ≡ cond b (g.flush_unknown c) false
    unknown true = refl
    unknown false = put_same g.flush_unknown c false c refl
