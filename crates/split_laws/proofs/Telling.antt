-- Where a world is split, `running` names no core across.
use Rattle.same_changes.specs.kernel_laws.proofs as low
use low.{◌≡◌, ℕ, refl, sym, ◌∙◌, ap, subst, IsTrue, List, ◌∷◌, Some, false≢true, Setting, IsSetting, Capability, Call, Switch, State}
use low.{thread_in, Named, only, to_use, Judged, Refused, Found, named, name_of, Event, Decides, after, is_open, IsRun, IsOpen, opened}
use low.{open_is, leads_is, Kind, Reply, Causes.causes_stand}
use Rattle.{split_laws.specs.World, split_laws.specs.IsSplit, split_laws.specs.side, same_changes.specs.kernel_laws.specs.Causes.IsRunning}
use Rattle.{world_laws.specs.state_laws.proofs.Threads.threads_run, split_laws.specs.Split.RepliesTell}
use Rattle.{split_laws.proofs.Working.thread_side, split_laws.proofs.Working.works_on, split_laws.proofs.Working.named_frame}

module _ (setting : Setting) (lim : IsSetting setting) (events : List Event) (c e : ℕ) (made : Call)
    (run : IsRun setting (Decides c made (Reply.Running e) ∷ events)) (w : World) (split : IsSplit w (after setting events)) where
  abbrev s : State
  s = after setting events

  h : IsOpen s (opened events) c
  h = open_is setting lim events c run.0 (ap is_open run.1.is_open)

  by_name : (n : ℕ) (x : Judged Capability) → named s c n (to_use (only Kind.Thread)) ≡ x → IsTrue (name_of x).found
      → (thread_in (s.frame (name_of x).frame)).runs_on ≡ Some e → side w s e ≡ side w s c
  by_name n (Refused r) is found runs = absurd (false≢true found)
  by_name n (Found k) is found runs =
      let current = (threads_run setting lim events run.0 k.frame e).current runs in
      thread_side w s e split (h.sound.cores e current.0).0 (h.sound.objects (s.core e).thread) ∙ ap w.frame current.1
      ∙ named_frame w s c (side w s c) (works_on w s c (opened events) h split) n Kind.Thread k refl is

  by_call : (call : Call) → IsRunning s c call e → side w s e ≡ side w s c
  by_call (Switch n q) running =
      let P : Named → Type 0 = λ x. IsTrue x.found × ((thread_in (s.frame x.frame)).runs_on ≡ Some e) in
      let at = subst P (sym (leads_is s c (only Kind.Thread) n)) running in
      by_name n (named s c n (to_use (only Kind.Thread))) refl at.0 at.1
  by_call _ running = absurd running

  pub told : side w s e ≡ side w s c
  told = by_call made (causes_stand s c made (Reply.Running e) run.1.permitted)

pub replies_tell : RepliesTell
replies_tell setting lim events c e call run w split = told setting lim events c e call run w split
