-- What a core in an open call has found stays found while other cores go on.
use Rattle.kernel_laws.proofs.{◌≡◌, inl, inr, ℕ, Bool, refl, sym, ◌∙◌, ap, subst, IsTrue, List, [], ◌∷◌, ◌++◌, false≢true, Setting}
use Rattle.kernel_laws.proofs.{IsSetting, Kind, Table, Leaf, Pages, Pleaf, Frame, Kernel, State, is_node, Relies, Event, after, is_open}
use Rattle.kernel_laws.proofs.{phase_of, IsRun, IsOpen, opened, open_is, phase_other}
use Rattle.kernel_laws.specs.found_stays.proofs.{names_node, table_relies, pages_relies}
use Rattle.kernel_laws.specs.kernel_rules.specs.Relies.{is_fixed}
use Rattle.kernel_laws.specs.found_stays.proofs.Stays.{Stay, stay_same, stay_then, usable_relies, event_stay}
use Rattle.state_laws.specs.Looking.{names_nodes, LooksThrough, AreOfOthers, FoundStays, ActingStays}

-- A core stays open through events of others.
open_still : (later earlier : List Event) (c : ℕ) → AreOfOthers c later → phase_of (later ++ earlier) c ≡ phase_of earlier c
open_still [] earlier c others = refl
open_still (e ∷ later) earlier c others =
    phase_other e (later ++ earlier) c others.0 ∙ open_still later earlier c others.1

stays : (setting : Setting) → IsSetting setting → (later earlier : List Event) → IsRun setting (later ++ earlier) → (c : ℕ)
    → AreOfOthers c later
    → IsTrue (is_open (phase_of earlier c)) → Stay (after setting earlier) (after setting (later ++ earlier)) c
stays setting lim [] earlier run c others is = stay_same (after setting earlier) c
stays setting lim (e ∷ later) earlier run c others is =
    stay_then (after setting earlier) (after setting (later ++ earlier)) (after setting (e ∷ later ++ earlier)) c
    (stays setting lim later earlier run.0 c others.1 is)
    (event_stay setting lim e (later ++ earlier) run c others.0 (ap is_open (open_still later earlier c others.1) ∙ is))

node_kind : (k : Kind) → IsTrue (names_nodes k) → IsTrue (names_node k)
node_kind Kind.Table h = refl
node_kind Kind.Leaf h = refl
node_kind Kind.Pages h = refl
node_kind Kind.Pleaf h = refl
node_kind Kind.Link h = refl
node_kind _ h = absurd (false≢true h)

node_fixed : (x : Frame) → IsTrue (is_node x) → IsTrue (is_fixed x)
node_fixed (Kernel Table) h = refl
node_fixed (Kernel Leaf) h = refl
node_fixed (Kernel Pages) h = refl
node_fixed (Kernel Pleaf) h = refl
node_fixed _ h = absurd (false≢true h)

-- A core relies on the nodes through which it may look.
relies : (s : State) (o : ℕ → Bool) (c f : ℕ) → IsOpen s o c → LooksThrough s c f → Relies s c f
relies s o c f h (inl is) = subst (Relies s c) (sym is) (table_relies s o c h.sound h.is)
relies s o c f h (inr (inl is)) = subst (Relies s c) (sym is) (pages_relies s o c h.sound h.is)
relies s o c f h (inr (inr n)) =
    subst (Relies s c) n.frame (usable_relies s o c h.sound h.is n.at n.cap (node_kind n.cap.kind n.kind) n.may)

pub found_stays : FoundStays
found_stays setting lim later earlier run c others is = record {
  comp = stay.comp;
  names = stay.named;
  uses = λ at k through. stay.usable at k (on at.node through);
  reaches = λ root n at through. stay.reached root n at (on root.frame through);
  nodes = λ f through.
      let r : Relies (after setting earlier) c f = on f through in
      (r.node, stay.frame f (node_fixed ((after setting earlier).frame f) r.node) r.guarded);
}
  where
    before : (later earlier : List Event) → IsRun setting (later ++ earlier) → IsRun setting earlier
    before [] earlier run = run
    before (e ∷ later) earlier run = before later earlier run.0

    stay : Stay (after setting earlier) (after setting (later ++ earlier)) c
    stay = stays setting lim later earlier run c others is

    on : (f : ℕ) → LooksThrough (after setting earlier) c f → Relies (after setting earlier) c f
    on f through = relies (after setting earlier) (opened earlier) c f (open_is setting lim earlier c (before later earlier run) is) through

pub acting_stays : ActingStays
acting_stays setting lim later earlier run c others is may = (stays setting lim later earlier run c others is).acts may
