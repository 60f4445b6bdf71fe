-- What the words make of a core whose call enters a component, or leaves one.
use Rattle.std.proofs.Common.{◌≡◌, ◌+◌, ◌-◌, ◌^◌, ◌<◌, ◌≤◌, ◌==◌, ℕ, min, pos, negsuc, IsTrue, true, List, [], ◌∷◌, Option, Some, None}
use Rattle.std.proofs.Common.{nat_le, false, refl, subst, sym, ◌∙◌}
use Rattle.std.proofs.lemmas.Bool.{le-leb, lt-leb}
use Rattle.spk_nums.specs.Capability.{Capability}
use Rattle.spk_nums.specs.declared.kinds.Kind.{Kind}
use Rattle.spk_nums.specs.declared.calls.Call.{Call}
use Rattle.spk_nums.specs.declared.calls.Call.TheVariants.{Call as call_gate, Ret}
use Rattle.spk_nums.specs.declared.replies.Reply.TheVariants.{Ok}
use Rattle.spk_nums.specs.declared.replies.Value.TheVariants.{Nothing}
use Rattle.straight_looks.specs.core_words.specs.Due.{due_of}
use Rattle.straight_looks.specs.step_starts.specs as low
use low.word_map.specs.Moves.{op_of}
use low.kernel_rules.specs.Access.{only}
use low.call_plans.specs.Plans.{pushed}
use low.act_states.specs.Acts.{invokes_in}
use low.act_states.specs.Invocations.{InvokingFits, ReturningFits, below_in, enters_live, frame_in, returning_move}
use low.act_states.specs.OwnChanges.{own_changed}
use low.act_states.specs.declared.invocations.Invoking.{Invoking}
use low.act_states.specs.declared.invocations.InvokingAt.{InvokingAt}
use low.act_states.specs.declared.invocations.Returning.{Returning}
use low.act_states.specs.declared.invocations.ReturningAt.{ReturningAt}
use low.act_states.specs.declared.own.Own.{Own}
use low.act_states.specs.declared.own.OwnChange.TheVariants.{Works}
use low.act_states.specs.declared.work.Act.{Act as ActType}
use low.act_states.specs.declared.work.Act.TheVariants as act
use low.act_states.specs.declared.work.Tail.TheVariants as tail
use low.act_states.specs.declared.work.Work.TheVariants.{Act}
use low.act_states.specs.declared.work.WorkStep.{WorkStep}
use low.act_states.specs.declared.work.WorkStep.TheVariants.{Changes}
use low.frame_words.specs.Comp.{comp_of_word}
use low.frame_words.specs.Live.{live_of_word}
use low.frame_words.specs.declared.comp_word.CompWord.{CompWord}
use low.frame_words.specs.declared.live_word.LiveWord.{LiveWord}
use low.stage_look.specs.declared.look.Look.TheVariants.{AtRoot}
use low.stage_pins.specs.declared.held.Acquired.{Acquired}
use low.stage_pins.specs.declared.pin.Pin.TheVariants.{AtLoad}
use low.stage_quiet.specs.Clocks.{drawn_stamp}
use low.stage_thread.specs.declared.stack.Pop.{Pop}
use low.stage_thread.specs.declared.stack.Push.{Push}
use low.call_stages.specs.View.{Core}
use low.call_stages.specs.Cores.{absorbed, core_after}
use low.call_stages.specs.Fits.{IsCore}
use low.call_stages.specs.Steps.{landed}
use low.call_stages.specs.declared.stages.Stage.TheVariants.{Enter, Undecided}
use Rattle.straight_acts.specs.Acting.{counts, pins}
use Rattle.straight_looks.proofs.Fitting.{act_fits}
use Rattle.straight_looks.specs.Standing.{acts, going, looks, onward, stands}
use Rattle.straight_entries.specs.Entering.{IsActing, IsStoring, entering, is_live_at, leaving}

-- the name of a gate
gate_asks : (own : Own) (g : ℕ) → nat_le g 4095 ≡ true
    → onward own (call_gate g) 2 [] ≡ looks own (call_gate g) 3 (AtRoot own.table g) []
unfolding onward
gate_asks own g small = rw small refl

pub gate_asked : (own : Own) (call : Call) (g : ℕ) (ks : List Capability) (c : Core)
    → call ≡ call_gate g → g ≤ 4095 → ks ≡ [] → c ≡ onward own call 2 [] → c ≡ looks own call 3 (AtRoot own.table g) ks
gate_asked own call g ks c named small none on = rw (on, none, named) (gate_asks own g (le-leb g 4095 small))

-- it has led to one: a capability of another kind is not wanted
not_wanted : (k : Capability) (d : Kind) → k.kind ≡ d → only Kind.Gate d ≡ false → IsTrue (only Kind.Gate k.kind) → ⊥
not_wanted k d is other wanted = false_is_not (sym other ∙ subst (λ (e : Kind). IsTrue (only Kind.Gate e)) is wanted)
  where
    false_is_not : false ≡ true → ⊥
    false_is_not e = cc

gate_begins : (own : Own) (g : ℕ) (k : Capability) (d : Kind) → k.kind ≡ d → own.depth < 16
    → IsCore (core_after own (landed (going (call_gate g) 4 Enter (k ∷ []) []) (invokes_in own d k.frame k.arg)))
    → core_after own (landed (going (call_gate g) 4 Enter (k ∷ []) []) (invokes_in own d k.frame k.arg))
    ≡ acts own (call_gate g) 5 (act.Invoke (entering own k)) (k ∷ [])
gate_begins own g k Kind.Gate is deep fits = rw (lt-leb 16 own.depth deep) refl
gate_begins own g k Kind.Range is deep fits = absurd (not_wanted k Kind.Range is refl fits.active.found.0.0)
gate_begins own g k Kind.Table is deep fits = absurd (not_wanted k Kind.Table is refl fits.active.found.0.0)
gate_begins own g k Kind.Leaf is deep fits = absurd (not_wanted k Kind.Leaf is refl fits.active.found.0.0)
gate_begins own g k Kind.Pages is deep fits = absurd (not_wanted k Kind.Pages is refl fits.active.found.0.0)
gate_begins own g k Kind.Pleaf is deep fits = absurd (not_wanted k Kind.Pleaf is refl fits.active.found.0.0)
gate_begins own g k Kind.Comp is deep fits = absurd (not_wanted k Kind.Comp is refl fits.active.found.0.0)
gate_begins own g k Kind.Thread is deep fits = absurd (not_wanted k Kind.Thread is refl fits.active.found.0.0)
gate_begins own g k Kind.Tcap is deep fits = absurd (not_wanted k Kind.Tcap is refl fits.active.found.0.0)
gate_begins own g k Kind.Link is deep fits = absurd (not_wanted k Kind.Link is refl fits.active.found.0.0)
gate_begins own g k Kind.Page is deep fits = absurd (not_wanted k Kind.Page is refl fits.active.found.0.0)

gate_led : (own : Own) (g : ℕ) (k : Capability) → own.depth < 16 → IsCore (onward own (call_gate g) 4 (k ∷ []))
    → onward own (call_gate g) 4 (k ∷ []) ≡ acts own (call_gate g) 5 (act.Invoke (entering own k)) (k ∷ [])
unfolding onward
gate_led own g k deep fits = gate_begins own g k k.kind refl deep fits

pub gate_entered : (own : Own) (call : Call) (g : ℕ) (ks js : List Capability) (k : Capability) (m : Invoking) (c : Core)
    → call ≡ call_gate g → own.depth < 16 → ks ≡ [] → js ≡ pushed ks k → m ≡ entering own k → IsCore c → c ≡ onward own call 4 (pushed ks k)
    → c ≡ acts own call 5 (act.Invoke m) js
gate_entered own call g ks js k m c named deep none first begins fits on =
    let led : c ≡ onward own call 4 (k ∷ []) = subst (λ (xs : List Capability). c ≡ onward own call 4 (pushed xs k)) none on in
    let on-gate : c ≡ onward own (call_gate g) 4 (k ∷ []) = subst (λ (x : Call). c ≡ onward own x 4 (k ∷ [])) named led in
    rw (first, none, begins, named, on-gate) (gate_led own g k deep (subst IsCore on-gate fits))

-- the loads of the component's words
pub entered_few : (own : Own) (call : Call) (steps : ℕ) (m : Invoking) (ks : List Capability) (c : Core)
    → c ≡ acts own call steps (act.Invoke m) ks → IsCore c → m.frames ≤ 512
entered_few own call steps m ks c is fits =
    let h : InvokingFits own.layout m = act_fits own call steps (act.Invoke m) ks c is fits in h.few

pub table_loaded : (own : Own) (call : Call) (steps w t : ℕ) (m : Invoking) (ks : List Capability) (b c : Core)
    → b ≡ acts own call steps (act.Invoke m) ks → c ≡ absorbed b w → m.at ≡ InvokingAt.LoadTable → Some t ≡ frame_in m.frames w
    → c ≡ acts own call (steps + 1) (act.Invoke (record m { at = InvokingAt.LoadPages t })) ks
table_loaded own call steps w t m ks b c at goes stands shown = rw (goes, at, stands, ← shown) refl

pub pages_loaded : (own : Own) (call : Call) (steps w t p : ℕ) (m : Invoking) (ks : List Capability) (b c : Core)
    → b ≡ acts own call steps (act.Invoke m) ks → c ≡ absorbed b w → m.at ≡ InvokingAt.LoadPages t → Some p ≡ frame_in m.frames w
    → c ≡ acts own call (steps + 1) (act.Invoke (record m { at = InvokingAt.LoadComp t p })) ks
pages_loaded own call steps w t p m ks b c at goes stands shown = rw (goes, at, stands, ← shown) refl

pub life_loaded : (own : Own) (call : Call) (steps w t p : ℕ) (life : CompWord) (m : Invoking) (ks : List Capability) (b c : Core)
    → b ≡ acts own call steps (act.Invoke m) ks → c ≡ absorbed b w → m.at ≡ InvokingAt.LoadComp t p → m.core ≡ own.core
    → comp_of_word w ≡ Some life
    → c ≡ pins own call (steps + 1) (AtLoad m.comp own.core) (pos 1) (act.Invoke (record m { at = InvokingAt.LoadLive t p life })) ks
life_loaded own call steps w t p life m ks b c at goes stands same shown = rw (goes, at, stands, shown, same) refl

-- the load of its number's word
live_step : (m : Invoking) (t p : ℕ) (shown : Option LiveWord) → is_live_at m.epoch shown ≡ true
    → enters_live m t p shown
    ≡ Changes (Ok Nothing) (Works m.comp t p (min (m.depth + 1) (2 ^ 8 - 1))) None
    (tail.Push (Push.AtStack m.thread m.core m.depth m.comp))
live_step m t p (Some (LiveWord.Live epoch f)) lives = rw lives refl
live_step m t p (Some LiveWord.Free) lives = absurd (cc)
live_step m t p (Some (LiveWord.Closing epoch by)) lives = absurd (cc)
live_step m t p (Some (LiveWord.Dead epoch stamp)) lives = absurd (cc)
live_step m t p None lives = absurd (cc)

pub live_entered : (own own' : Own) (call : Call) (steps w t p depth : ℕ) (life : CompWord) (m : Invoking) (ks : List Capability)
    (x : Acquired) (b c : Core)
    → b ≡ counts own call steps (Undecided (Act (act.Invoke m))) ks x → c ≡ absorbed b w → m.at ≡ InvokingAt.LoadLive t p life
    → is_live_at m.epoch (live_of_word w) ≡ true → depth ≡ min (m.depth + 1) (2 ^ 8 - 1) → own' ≡ own_changed own (Works m.comp t p depth)
    → IsStoring own' (tail.Push (Push.AtStack m.thread m.core m.depth m.comp)) None x c
live_entered own own' call steps w t p depth life m ks x b c at goes stands lives deeper works = record {
  call = call;
  steps = steps + 1;
  found = ks;
  is = rw (goes, at, works, deeper, stands, live_step m t p (live_of_word w) lives) refl;
}

-- the entry of a leaving
pub ret_entered : (own : Own) (call : Call) (w : ℕ) (ks : List Capability) (b c : Core) → call ≡ Ret → ks ≡ []
    → b ≡ stands own call 0 Enter [] → c ≡ absorbed b w → own.made < own.limit → 1 < own.depth
    → c ≡ acts own call 1 (act.Return (leaving own)) ks
ret_entered own call w ks b c named none at goes room deep =
    rw (goes, at, none, named, lt-leb own.limit own.made room, lt-leb own.depth 1 deep) refl

-- the loads of the component below
pub left_few : (own : Own) (call : Call) (steps : ℕ) (m : Returning) (ks : List Capability) (c : Core)
    → c ≡ acts own call steps (act.Return m) ks → IsCore c → m.frames ≤ 512
left_few own call steps m ks c is fits =
    let h : ReturningFits own.layout m = act_fits own call steps (act.Return m) ks c is fits in h.few

pub below_loaded : (own : Own) (call : Call) (steps w f : ℕ) (m : Returning) (ks : List Capability) (b c : Core)
    → b ≡ acts own call steps (act.Return m) ks → c ≡ absorbed b w → m.at ≡ ReturningAt.LoadBelow → Some f ≡ below_in m.frames w
    → c ≡ acts own call (steps + 1) (act.Return (record m { at = ReturningAt.LoadTable f })) ks
below_loaded own call steps w f m ks b c at goes stands shown = rw (goes, at, stands, ← shown) refl

pub below_table_loaded : (own : Own) (call : Call) (steps w f t : ℕ) (m : Returning) (ks : List Capability) (b c : Core)
    → b ≡ acts own call steps (act.Return m) ks → c ≡ absorbed b w → m.at ≡ ReturningAt.LoadTable f → Some t ≡ frame_in m.frames w
    → c ≡ acts own call (steps + 1) (act.Return (record m { at = ReturningAt.LoadPages f t })) ks
below_table_loaded own call steps w f t m ks b c at goes stands shown = rw (goes, at, stands, ← shown) refl

pub below_pages_loaded : (own : Own) (call : Call) (steps w f t p : ℕ) (m : Returning) (ks : List Capability) (b c : Core)
    → b ≡ acts own call steps (act.Return m) ks → c ≡ absorbed b w → m.at ≡ ReturningAt.LoadPages f t → m.core ≡ own.core
    → Some p ≡ frame_in m.frames w
    → c ≡ pins own call (steps + 1) (AtLoad m.top own.core) (negsuc 0) (act.Return (record m { at = ReturningAt.Draw f t p })) ks
below_pages_loaded own call steps w f t p m ks b c at goes stands same shown = rw (goes, at, stands, ← shown, same) refl

-- the draw of the stamp
pub acting : (own : Own) (call : Call) (steps : ℕ) (a : ActType) (ks : List Capability) (x : Acquired) (c : Core)
    → c ≡ counts own call steps (Undecided (Act a)) ks x → IsActing own a x c
acting own call steps a ks x c is = record { call = call; steps = steps; found = ks; is = is }

pub draw_due : (own : Own) (m : Returning) (x : Acquired) (c : Core) → IsActing own (act.Return m) x c
    → due_of c ≡ Some (op_of own.layout (returning_move m))
draw_due own m x c at = rw at.is refl

pub draw_fits : (own : Own) (m : Returning) (x : Acquired) (c : Core) → IsActing own (act.Return m) x c → IsCore c
    → ReturningFits own.layout m
draw_fits own m x c at fits = (subst IsCore at.is fits).active.stage

pub stamp_drawn : (own own' : Own) (w f t p stamp depth : ℕ) (m : Returning) (x : Acquired) (b c : Core)
    → IsActing own (act.Return m) x b → c ≡ absorbed b w → m.at ≡ ReturningAt.Draw f t p → stamp ≡ drawn_stamp w
    → depth ≡ m.depth - 1 → own' ≡ own_changed own (Works f t p depth)
    → IsStoring own' (tail.Pop (Pop.AtThread m.thread m.core m.depth)) (Some stamp) x c
stamp_drawn own own' w f t p stamp depth m x b c at goes stands drawn higher works = record {
  call = at.call;
  steps = at.steps + 1;
  found = at.found;
  is = rw (goes, at.is, works, higher, drawn, stands) refl;
}
