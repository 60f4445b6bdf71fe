-- The numbers of a page have their room.
use Rattle.page_touches.specs.step_views.specs.kernel_rules.proofs.{◌≡◌, ℕ, ◌+◌, ◌^◌, ◌<◌, ◌≤◌, List, [], ◌∷◌, length, All, Option, Some}
use Rattle.page_touches.specs.step_views.specs.kernel_rules.proofs.{None, arith}
use Rattle.page_touches.specs.step_views.specs.kernel_rules.proofs.{get_or as slice_index_or, set as slice_set, replicate, Call, Reply}
use Rattle.page_touches.specs.page_layers.specs.{no_call, lane_entered, lane_decided, lane_topped}
use Rattle.std.proofs.lemmas.List.Elements.{All-from_recursion, All-set, All-weaker, All-replicate}
use Rattle.picture_rows.specs.{Rows.IsWithin, Rows.no_rows, declared.rows.Rows.Rows}
use Rattle.{page_touches.specs.page_layers.specs.declared.lanes.Lane.Lane, page_drawing.specs.Pages.IsSound}

-- What is due of eight cores.
pub dues_most : (a b c d e f g h : ℕ) → a ≤ 178 → b ≤ 178 → c ≤ 178 → d ≤ 178 → e ≤ 178 → f ≤ 178 → g ≤ 178 → h ≤ 178
    → All (λ x. x ≤ 178) (a ∷ b ∷ c ∷ d ∷ e ∷ f ∷ g ∷ h ∷ [])
dues_most a b c d e f g h la lb lc ld le lf lg lh =
    All-from_recursion (λ (x : ℕ). x ≤ 178) (a ∷ b ∷ c ∷ d ∷ e ∷ f ∷ g ∷ h ∷ []) (la, (lb, (lc, (ld, (le, (lf, (lg, (lh, tt))))))))

-- No core has entered more calls than steps are made.
pub lanes_noted : (lanes : List Lane) (core n m : ℕ) (l : Lane) → All (λ x. x.index ≤ n) lanes → n ≤ m → l.index ≤ m
    → All (λ x. x.index ≤ m) (slice_set lanes core l)
lanes_noted lanes core n m l all more own =
    All-set (λ (x : Lane). x.index ≤ m) lanes core l own
    (All-weaker (λ (x : Lane). x.index ≤ n) (λ (x : Lane). x.index ≤ m) (λ x h. omega (arith, h, more)) lanes all)

pub own_index : (lanes : List Lane) (core n : ℕ) → All (λ x. x.index ≤ n) lanes → core < length lanes → (slice_index_or lanes core no_call).index ≤ n
own_index lanes core n all lt = all core no_call lt

-- A page before any step, one that begins, and one with a step more.
pub blank_sound : (cores : ℕ) → cores ≤ 8 → IsWithin (no_rows (replicate 8 156)) → IsSound (no_rows (replicate 8 156)) cores 1 0 0 (replicate 8 no_call)
blank_sound cores few within = record {
  within = within;
  few_cores = few;
  before = omega arith;
  decided = omega arith;
  entered = All-replicate (λ (x : Lane). x.index ≤ 0) 8 no_call (omega arith);
}

module _ (rows : Rows) (cores page first decisions : ℕ) (lanes : List Lane) (sound : IsSound rows cores page first decisions lanes) where
  pub turned_sound : (rows' : Rows) → IsWithin rows' → rows'.count ≡ 0
      → IsSound rows' cores (page + 1) (first + rows.count) decisions lanes
  turned_sound rows' within none = record {
    within = within;
    few_cores = sound.few_cores;
    before = omega (arith, sound.before, sound.within.count);
    decided = omega (arith, sound.decided, none);
    entered = All-weaker (λ (x : Lane). x.index ≤ first + rows.count) (λ (x : Lane). x.index ≤ first + rows.count + rows'.count)
        (λ x h. omega (arith, h)) lanes sound.entered;
  }

  pub noted_sound : (rows' : Rows) (decisions' core : ℕ) (l : Lane) → IsWithin rows' → rows'.count ≡ rows.count + 1
      → decisions' ≤ decisions + 1 → l.index ≤ first + rows'.count
      → IsSound rows' cores page first decisions' (slice_set lanes core l)
  noted_sound rows' decisions' core l within next decided own = record {
    within = within;
    few_cores = sound.few_cores;
    before = sound.before;
    decided = omega (arith, sound.decided, next, decided);
    entered = lanes_noted lanes core (first + rows.count) (first + rows'.count) l sound.entered (omega (arith, next)) own;
  }

  -- There is room for the number of one step more, and of one call.
  pub step_room : page < 2 ^ 32 → first + (rows.count + 1) < 2 ^ 64
  step_room few = omega (arith, few, sound.before, sound.within.count)

  pub call_room : (core : ℕ) → page < 2 ^ 32 → core < length lanes → (slice_index_or lanes core no_call).index + 1 < 2 ^ 64
  call_room core few lt = omega (arith, few, sound.before, sound.within.count, own_index lanes core (first + rows.count) sound.entered lt)

  pub decision_room : page < 2 ^ 32 → decisions + 1 < 2 ^ 64
  decision_room few = omega (arith, few, sound.before, sound.decided, sound.within.count)

-- A step enters one call at most.
pub index_most : (enters : Option Call) (decides : Option Reply) (n y : ℕ) (others : List ℕ) (l : Lane)
    → (lane_topped enters y (lane_decided decides n (lane_entered enters n others l))).index ≤ l.index + 1
index_most None None n y others l = omega arith
index_most None (Some r) n y others l = omega arith
index_most (Some c) None n y others l = omega arith
index_most (Some c) (Some r) n y others l = omega arith
