-- Each reply that may decide an open call is one of those that are tried.
use Rattle.reply_ranges.specs.kernel_laws.proofs.{◌≡◌, ◌<◌, ◌≤◌, ℕ, zero, suc, Bool, true, false, List, [], ◌∷◌, ◌++◌, Option, Some, None}
use Rattle.reply_ranges.specs.kernel_laws.proofs.{get_or, refl, sym, ◌∙◌, ap, subst, arith, inl, inr, if◌then◌else◌, min, false≢true}
use Rattle.reply_ranges.specs.kernel_laws.proofs.{lt-ltb, Setting, IsSetting, Call, Retype, Transfer, Delegate, Replenish, Value, Reply}
use Rattle.reply_ranges.specs.kernel_laws.proofs.{Capability, State, outstanding, Named, only, to_use, Change, Judged, Refused, Found}
use Rattle.reply_ranges.specs.kernel_laws.proofs.{named, name_of, IsFoundAnd, refs, MayReply, change_of, reply_in, alone, Phase, Open}
use Rattle.reply_ranges.specs.kernel_laws.proofs.{IsRun, opened, runs_sound, leads_is, Kind, FrameKind}
use Rattle.history_options.specs.marked_history.specs.{events_of, phase, state, MayBeHeldUp, MayDecideIn, IsHistory}
use Rattle.history_options.specs.{core_replies, below_replies, replies_of}
use Rattle.std.proofs.lemmas.List.Elements.{Contains-append_left, Contains-append_right, Contains-get_or}
use Rattle.reply_ranges.specs.kernel_laws.specs.Causes.{tcap_named, HasLess, IsShort, IsReferenced}
use Rattle.history_options.specs.open_calls.specs.Told.{referenced, left, short_of, short, told}
use Rattle.history_options.specs.Replies.{ok_of, listed, plain_replies}
use Rattle.option_laws.proofs.Within.{core_within, unnamed_past}
use Rattle.{std.specs.List.Contains, std.proofs.lemmas.Bool.cases_lt, reply_ranges.specs.kernel_rules.specs.Alone.first_reply}
use Rattle.{reply_ranges.specs.kernel_laws.proofs.Causes.causes_stand, reply_ranges.specs.Ranges.ReplyFits}
use Rattle.{reply_ranges.proofs.Replies.replies_in_range, history_options.specs.marked_history.specs.declared.marks.Mark.Mark}
use Rattle.{history_options.specs.marked_history.proofs.Running.histories_run, option_laws.specs.Every.EveryReplyIsTried}

-- ---- the number of the state

short_led : (s : State) (m n : ℕ) (found : Judged Capability) → HasLess s (name_of found) m n → short_of s found ≡ Some (Reply.Short n)
short_led s m n (Refused r) less = absurd (false≢true less.found)
short_led s m n (Found k) less = ap (λ (b : ℕ). Some (Reply.Short b)) (sym less.is)

short_is : (s : State) (c a m n : ℕ) → HasLess s (tcap_named s c a) m n → short s c a ≡ Some (Reply.Short n)
short_is s c a m n less = short_led s m n (named s c a (to_use (only Kind.Tcap)))
    (subst (λ (x : Named). HasLess s x m n) (sym (leads_is s c (only Kind.Tcap) a)) less)

left_is : (s : State) (c m n : ℕ) → n ≡ outstanding (s.core c) → n < m → left s c m ≡ Some (Reply.Short n)
left_is s c m n is less =
    let few : outstanding (s.core c) < m = omega (arith, is, less) in
    let same : min (outstanding (s.core c)) m ≡ n = omega (arith, is, less) in
    ap (λ b. if b then Some (Reply.Short (min (outstanding (s.core c)) m)) else None) (lt-ltb (outstanding (s.core c)) m few)
    ∙ ap (λ (k : ℕ). Some (Reply.Short k)) same

short_told : (s : State) (c : ℕ) (call : Call) (n : ℕ) → IsShort s c call n → told s c call ≡ Some (Reply.Short n)
short_told s c (Transfer a b m) n is = short_is s c a m n is
short_told s c (Delegate a b m) n is = short_is s c a m n is
short_told s c (Replenish a m) n is = left_is s c m n is.0 is.1
short_told s c _ n is = absurd is

referenced_is : (s : State) (f n : ℕ) → (s.limits.frames ≤ f → refs s f ≡ 0) → 0 < refs s f → n ≡ refs s f
    → referenced s f ≡ Some (Reply.Referenced n)
referenced_is s f n past some is = elim (cases_lt f s.limits.frames) [
  | inl below ↦ ap (λ b. if b then Some (Reply.Referenced (refs s f)) else None) (lt-ltb f s.limits.frames below)
      ∙ ap (λ (m : ℕ). Some (Reply.Referenced m)) (sym is)
  | inr beyond ↦ absurd (let none = past beyond in omega (arith, some, none))
]

referenced_told : (s : State) (c : ℕ) (call : Call) (n : ℕ) → ((f : ℕ) → s.limits.frames ≤ f → refs s f ≡ 0) → IsReferenced s call n
    → told s c call ≡ Some (Reply.Referenced n)
referenced_told s c (Retype r f FrameKind.Untyped) n past is = referenced_is s f n (past f) is.0 is.1
referenced_told s c (Retype r f FrameKind.User) n past is = absurd is
referenced_told s c (Retype r f FrameKind.Kernel) n past is = absurd is
referenced_told s c _ n past is = absurd is

-- ---- the value of the state

found_ok : (x : Judged Change) (v : Value) → IsFoundAnd x (λ change. change.value ≡ v) → reply_in x ≡ Reply.Ok v
found_ok (Refused r) v is = absurd is
found_ok (Found change) v is = ap Reply.Ok is

ok_alone : (s : State) (c : ℕ) (call : Call) (v : Value) → MayReply s c call (Reply.Ok v) → alone s c call ≡ Reply.Ok v
ok_alone s c call v may =
    ap (λ b. if b then Reply.CallsSpent else first_reply s c call) may.0
    ∙ ap (λ b. if b then reply_in (change_of s c call) else Reply.Dead) may.1.0
    ∙ found_ok (change_of s c call) v may.1.1

-- ---- places in the list

named_below : (cores e k : ℕ) → e < cores → k < 4 → Contains (below_replies cores) (get_or (core_replies e) k Reply.Dead)
named_below zero e k low few = absurd (omega (arith, low))
named_below (suc n) e k low few = elim (cases_lt e n) [
  | inl below ↦ Contains-append_left (below_replies n) (core_replies n) _ (named_below n e k below few)
  | inr past ↦
      let same : n ≡ e = omega (arith, low, past) in
      subst (λ (x : ℕ). Contains (below_replies n ++ core_replies n) (get_or (core_replies x) k Reply.Dead)) same
      (Contains-append_right (below_replies n) (core_replies n) _ (Contains-get_or (core_replies n) k Reply.Dead few))
]

module _ (cores : ℕ) (first : Reply) (number : Option Reply) where
  in_number : (r : Reply) → Contains (ok_of first ++ listed number) r → Contains (replies_of cores first number) r
  in_number r there =
      Contains-append_left (ok_of first ++ listed number ++ plain_replies) (below_replies cores) r
      (Contains-append_left (ok_of first ++ listed number) plain_replies r there)

  tried_ok : (v : Value) → first ≡ Reply.Ok v → Contains (replies_of cores first number) (Reply.Ok v)
  tried_ok v is =
      in_number (Reply.Ok v) (Contains-append_left (ok_of first) (listed number) (Reply.Ok v)
      (subst (λ (r : Reply). Contains (ok_of r) (Reply.Ok v)) (sym is) (Contains-get_or (Reply.Ok v ∷ []) 0 Reply.Dead (omega arith))))

  tried_number : (r : Reply) → number ≡ Some r → Contains (replies_of cores first number) r
  tried_number r is =
      in_number r (Contains-append_right (ok_of first) (listed number) r
      (subst (λ (o : Option Reply). Contains (listed o) r) (sym is) (Contains-get_or (r ∷ []) 0 Reply.Dead (omega arith))))

  tried_plain : (k : ℕ) → k < 18 → Contains (replies_of cores first number) (get_or plain_replies k Reply.Dead)
  tried_plain k few =
      Contains-append_left (ok_of first ++ listed number ++ plain_replies) (below_replies cores) _
      (Contains-append_right (ok_of first ++ listed number) plain_replies _ (Contains-get_or plain_replies k Reply.Dead few))

  tried_core : (e k : ℕ) → e < cores → k < 4 → Contains (replies_of cores first number) (get_or (core_replies e) k Reply.Dead)
  tried_core e k low few =
      Contains-append_right (ok_of first ++ listed number ++ plain_replies) (below_replies cores) _ (named_below cores e k low few)

-- ---- each reply that may decide the call

abbrev is_busy : Reply → Bool
is_busy (Reply.Busy d) = true
is_busy _ = false

module _ (setting : Setting) (lim : IsSetting setting) (marks : List Mark) (history : IsHistory setting marks) (c : ℕ) (call : Call)
    (opens : phase marks c ≡ Open call) where
  abbrev s : State
  s = state setting marks

  run : IsRun setting (events_of marks)
  run = histories_run setting marks history

  in_range : (r : Reply) → MayReply s c call r → ((d : ℕ) → r ≡ Reply.Busy d → d < setting.cores) → ReplyFits setting.cores r
  in_range r may busy = replies_in_range setting lim (events_of marks) run c call r (record { is_open = opens; permitted = may }) busy

  not_busy : (r : Reply) → is_busy r ≡ false → (d : ℕ) → r ≡ Reply.Busy d → d < setting.cores
  not_busy r other d is = absurd (false≢true (sym other ∙ ap is_busy is))

  unnamed : (f : ℕ) → s.limits.frames ≤ f → refs s f ≡ 0
  unnamed f past = unnamed_past s (opened (events_of marks)) (runs_sound setting lim (events_of marks) run) f past

  abbrev first : Reply
  first = alone s c call

  abbrev number : Option Reply
  number = told s c call

  plain : (k : ℕ) → k < 18 → Contains (replies_of setting.cores first number) (get_or plain_replies k Reply.Dead)
  plain = tried_plain setting.cores first number

  core : (e k : ℕ) → e < setting.cores → k < 4 → Contains (replies_of setting.cores first number) (get_or (core_replies e) k Reply.Dead)
  core = tried_core setting.cores first number

  tried : (r : Reply) → MayReply s c call r → MayBeHeldUp marks c r → Contains (replies_of setting.cores first number) r
  tried (Reply.Ok v) may up = tried_ok setting.cores first number v (ok_alone s c call v may)
  tried (Reply.Referenced n) may up = tried_number setting.cores first number (Reply.Referenced n)
      (referenced_told s c call n unnamed (causes_stand s c call (Reply.Referenced n) may))
  tried (Reply.Short n) may up = tried_number setting.cores first number (Reply.Short n)
      (short_told s c call n (causes_stand s c call (Reply.Short n) may))
  tried (Reply.Quiescing e) may up = core e 0 (in_range (Reply.Quiescing e) may (not_busy _ refl)) (omega arith)
  tried (Reply.Unflushed e) may up = core e 1 (in_range (Reply.Unflushed e) may (not_busy _ refl)) (omega arith)
  tried (Reply.Running e) may up = core e 2 (in_range (Reply.Running e) may (not_busy _ refl)) (omega arith)
  tried (Reply.Busy e) may up = core e 3 (core_within setting (events_of marks) run e up.inside) (omega arith)
  tried Reply.NoSlot may up = plain 0 (omega arith)
  tried Reply.Empty may up = plain 1 (omega arith)
  tried Reply.WrongCap may up = plain 2 (omega arith)
  tried Reply.NoRight may up = plain 3 (omega arith)
  tried Reply.Occupied may up = plain 4 (omega arith)
  tried Reply.FrameKind may up = plain 5 (omega arith)
  tried Reply.OutOfRange may up = plain 6 (omega arith)
  tried Reply.NotEmpty may up = plain 7 (omega arith)
  tried Reply.Dead may up = plain 8 (omega arith)
  tried Reply.Deep may up = plain 9 (omega arith)
  tried Reply.Bottom may up = plain 10 (omega arith)
  tried Reply.Unlike may up = plain 11 (omega arith)
  tried Reply.TooMany may up = plain 12 (omega arith)
  tried Reply.Same may up = plain 13 (omega arith)
  tried Reply.EpochsSpent may up = plain 14 (omega arith)
  tried Reply.Raced may up = plain 15 (omega arith)
  tried Reply.Fault may up = plain 16 (omega arith)
  tried Reply.CallsSpent may up = plain 17 (omega arith)

pub every_reply : EveryReplyIsTried
every_reply setting lim marks history c call opens r may =
    tried setting lim marks history c call opens r
    (subst (λ (p : Phase). MayDecideIn p (state setting marks) c r) opens may.permitted) may.held_up
