-- The names of the rule of each call.
use Rattle.kernel_rules.proofs.{◌≡◌, inl, inr, ℕ, List, [], ◌∷◌, Option, Some, None, refl, ap, subst, FrameKind, Make, Call, Translation}
use Rattle.kernel_rules.proofs.{comp_of, thread_in, Named, Want, only, to_use, Rule, Name, Vacant, Held, Mapped, Does, named, name_of}
use Rattle.kernel_rules.proofs.{rule_of, make_rule, switch_to, retype_rule, touch_by, translation_of, Kind}
use Rattle.kernel_rules.specs.State.{State}
use Rattle.call_names.specs.Names.{IsName, IsAmong, numbers_named, CallsName}

-- The numbers of a rule's names.
abbrev names_in : State → ℕ → Rule → List ℕ
names_in s c (Name n wanted rest) = n ∷ names_in s c (rest (name_of (named s c n wanted)))
names_in s c _ = []

among : (s : State) (c : ℕ) (rule : Rule) (n : ℕ) (want : Want) → IsName s c rule n want → IsAmong n (names_in s c rule)
among s c (Name m wanted rest) n want (inl e) = inl e.0
among s c (Name m wanted rest) n want (inr h) = inr (among s c (rest (name_of (named s c m wanted))) n want h)
among s c (Vacant target rest) n want h = absurd h
among s c (Held target rest) n want h = absurd h
among s c (Mapped table v rest) n want h = absurd h
among s c (Does causes value edits) n want h = absurd h

module _ (s : State) (c : ℕ) where
  made : (what : Make) (r f t b : ℕ) → names_in s c (make_rule s what r f t b) ≡ numbers_named (Call.Make what r f t b)
  made Make.Table r f t b = refl
  made _ r f t b = refl

  retyped : (r f : ℕ) (k : FrameKind) → names_in s c (retype_rule s r f k) ≡ r ∷ []
  retyped r f FrameKind.User = refl
  retyped r f FrameKind.Kernel = refl
  retyped r f FrameKind.Untyped = refl

  touched : (pages v : ℕ) (t : Option Translation) → names_in s c (touch_by pages v t) ≡ []
  touched pages v None = refl
  touched pages v (Some t) = refl

  switched : (thread : Named) (tcap : ℕ) (runs : Option ℕ) → names_in s c (switch_to thread tcap runs) ≡ []
  switched thread tcap None = refl
  switched thread tcap (Some d) = refl

  names : (call : Call) → names_in s c (rule_of s c call) ≡ numbers_named call
  names (Call.Retype r f k) = retyped r f k
  names (Call.Make what r f t b) = made what r f t b
  names (Call.Touch v) = touched (comp_of s c).pages v (translation_of (s.core c).cached (comp_of s c).pages v)
  names (Call.Switch h q) =
      let thread : Named = name_of (named s c h (to_use (only Kind.Thread))) in
      let tcap : Named = name_of (named s c q (to_use (only Kind.Tcap))) in
      ap (λ (rest : List ℕ). h ∷ q ∷ rest) (switched thread tcap.frame (thread_in (s.frame thread.frame)).runs_on)
  names _ = refl

pub calls_name : CallsName
calls_name s c call n want h = subst (IsAmong n) (names s c call) (among s c (rule_of s c call) n want h)
