-- The words and ends that a machine leaves represent the state that its traces leave, and its count words the references.
use Rattle.flight_laws.specs.flight.proofs.{◌≡◌, ℕ, ◌<◌, List, [], ◌∷◌, length, get_or, map, None, arith, refl, sym, ◌∙◌, ap, zero, suc}
use Rattle.flight_laws.specs.flight.proofs.{Setting, IsSetting, shape_of, RepresentCounts, Represent, word_in, end_in, Trace, state_after}
use Rattle.flight_laws.specs.flight.proofs.{last_left, end_of, limits_of, cores_after}
use Rattle.lone_kernel.specs.{core_at, fresh_seat, StandsFor}
use Rattle.flight_laws.specs.flight.proofs.{Final.represents, Final.represents_counts, Made.made_stands, Alike.like, Alike.like_counts}
use Rattle.lone_kernel.specs.{declared.seats.Seat.Seat, Machine.Machine}

-- the end of core c in the list of all
end_at : (setup : Setting) (seats : List Seat) (c : ℕ) → c < length seats
    → end_of (get_or seats c (fresh_seat setup c [])).state ≡ end_in (map (λ seat. end_of seat.state) seats) c
end_at setup seats c h = of_list seats c h (fresh_seat setup c []) where
  of_list : (seats : List Seat) (c : ℕ) → c < length seats → (d : Seat)
      → end_of (get_or seats c d).state ≡ end_in (map (λ seat. end_of seat.state) seats) c
  of_list [] c h d = absurd (omega arith)
  of_list (s ∷ seats) zero h d = refl
  of_list (s ∷ seats) (suc c) h d = of_list seats c (omega arith) d

pub closes : (m : Machine) → IsSetting m.setup → length m.seats ≡ m.setup.cores
    → ((c : ℕ) → c < m.setup.cores → (core_at m c).active ≡ None) →
    (t : Trace) → StandsFor m t → Represent (word_in (shape_of m.setup) m.words) (end_in (map (λ seat. end_of seat.state) m.seats))
    (state_after m.setup t)
closes m setting count between t stands =
    like m.setup (state_after m.setup t) (last_left m.setup t) (word_in (shape_of m.setup) m.words) (λ c. end_of (cores_after m.setup t c))
    (end_in (map (λ seat. end_of seat.state) m.seats))
    (ap (λ l. l.frames) (limits_of m.setup t)) (ap (λ l. l.cores) (limits_of m.setup t))
    (λ w is_in. sym (stands.words w is_in)) (λ c h. ap end_of (sym (stands.cores c h))
    ∙ end_at m.setup m.seats c (omega arith))
    (represents m.setup setting (cores_after m.setup t) t (made_stands m.setup setting t stands.made)
    (λ c h. ap (λ k. k.active) (sym (stands.cores c h)) ∙ between c h))

pub closes_counts : (m : Machine) → IsSetting m.setup → ((c : ℕ) → c < m.setup.cores → (core_at m c).active ≡ None) →
    (t : Trace) → StandsFor m t → RepresentCounts (word_in (shape_of m.setup) m.words) (state_after m.setup t)
closes_counts m setting between t stands =
    like_counts m.setup setting (state_after m.setup t) (last_left m.setup t) (word_in (shape_of m.setup) m.words)
    (ap (λ l. l.frames) (limits_of m.setup t)) (ap (λ l. l.cores) (limits_of m.setup t))
    (λ w is_in. sym (stands.words w is_in))
    (represents_counts m.setup setting (cores_after m.setup t) t (made_stands m.setup setting t stands.made)
    (λ c h. ap (λ k. k.active) (sym (stands.cores c h)) ∙ between c h))
