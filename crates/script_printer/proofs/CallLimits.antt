-- What lines say whose judgements did not fail, and that a later version allows what an earlier one does.
use Rattle.std.proofs.Common.{◌≡◌, ℕ, ◌≤◌, Result, Ok, Err, refl}
use Rattle.script_reader.specs.line_reader.specs.{◌>>=◌, declared.cause.Cause.Cause}
use Rattle.script_reader.specs.call_reader.specs.{Form, form_of, MaySay, IsCallWithin}
use Rattle.script_reader.specs.call_reader.proofs.Judgements.{judged_is}
use Rattle.spk_nums.specs.{Verbs.said, declared.calls.Call.Call}

-- one, two and three arguments, and the end of the line
pub args_none : {C : Type 0} (d : Result Unit Cause) (x c : C) → (d >>= λ done. Ok x) ≡ Ok c → x ≡ c
args_none (Ok done) x c e = judged_is x c e
args_none (Err k) x c e = absurd cc

pub args_one : {A C : Type 0} (r : Result A Cause) (d : Result Unit Cause) (f : A → C) (c : C)
    → (r >>= λ a. d >>= λ done. Ok (f a)) ≡ Ok c → (a : A) × (r ≡ Ok a) × (f a ≡ c)
args_one (Ok a) d f c e = (a, refl, args_none d (f a) c e)
args_one (Err k) d f c e = absurd cc

pub record Two {A B C : Type 0} (r : Result A Cause) (s : Result B Cause) (f : A → B → C) (c : C) : Type 0 where
  pub a : A
  pub b : B
  pub first : r ≡ Ok a
  pub second : s ≡ Ok b
  pub whole : f a b ≡ c

pub args_two : {A B C : Type 0} (r : Result A Cause) (s : Result B Cause) (d : Result Unit Cause) (f : A → B → C) (c : C)
    → (r >>= λ a. s >>= λ b. d >>= λ done. Ok (f a b)) ≡ Ok c → Two r s f c
args_two (Ok a) (Ok b) d f c e = record { a = a; b = b; first = refl; second = refl; whole = args_none d (f a b) c e }
args_two (Ok a) (Err k) d f c e = absurd cc
args_two (Err k) s d f c e = absurd cc

pub record Three {A B D C : Type 0} (r : Result A Cause) (s : Result B Cause) (t : Result D Cause) (f : A
    → B → D → C) (c : C) : Type 0 where
  pub a : A
  pub b : B
  pub d : D
  pub first : r ≡ Ok a
  pub second : s ≡ Ok b
  pub third : t ≡ Ok d
  pub whole : f a b d ≡ c

pub args_three : {A B D C : Type 0} (r : Result A Cause) (s : Result B Cause) (t : Result D Cause) (e : Result Unit Cause) (f : A
    → B → D → C) (c : C) → (r >>= λ a. s >>= λ b. t >>= λ d. e >>= λ done. Ok (f a b d)) ≡ Ok c → Three r s t f c
args_three (Ok a) s t e f c h =
    let two = args_two s t e (f a) c h in
    record { a = a; b = two.a; d = two.b; first = refl; second = two.first; third = two.second; whole = two.whole }
args_three (Err k) s t e f c h = absurd cc

-- ---- versions

-- what a line may say in a version, it may say in one that is 1 only if that is
may_later : (v w : ℕ) → (w ≡ 1 → v ≡ 1) → (f : Form) (c : Call) → MaySay v f c → MaySay w f c
may_later v w goes (Form.Says d) c may = may
may_later v w goes (Form.Number letter least most next) c may = (may.0, may.1, may.2, may_later v w goes (next may.0) c may.3)
may_later v w goes (Form.MayNumber letter next) c may =
    (may.0, may.1, λ one. may.2 (goes one), may_later v w goes (next may.0) c may.3)
may_later v w goes (Form.Kind letter next) c may = (may.0, may_later v w goes (next may.0) c may.1)
may_later v w goes (Form.Made letter next) c may = (may.0, may_later v w goes (next may.0) c may.1)

-- a call that is within the limits of a version is so in one that is 1 only if that is, and from 3 on if that is
pub later_version : (v w : ℕ) → (w ≡ 1 → v ≡ 1) × (3 ≤ v → 3 ≤ w) → (c : Call) → IsCallWithin v c → IsCallWithin w c
later_version v w goes c h = (λ late. goes.1 (h.0 late), may_later v w goes.0 (form_of (said c).verb) c h.1)
