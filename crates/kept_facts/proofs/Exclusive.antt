-- Who keeps a word without a mark: the core whose current thread has it, or the one whose mark the head carries of the temporal capability
-- whose list has it. So no word has two keepers, and another word settles to itself where it carries no mark.
use Rattle.core_invariant.proofs.{◌≡◌, ◌≢◌, ◌≤◌, ◌<◌, ◌⊎◌, inl, inr, ℕ, [], ◌∷◌, length, Bool, true, false, Option, Some, None, IsTrue}
use Rattle.core_invariant.proofs.{if◌then◌else◌, arith, refl, sym, ◌∙◌, ap, subst, false≢true, ne_eqb, Setting, IsSetting, Call, Word}
use Rattle.core_invariant.proofs.{EntryAt, word_of, left_of, is_node, Frame, Kernel, Table, Leaf, Pages, Pleaf}
use Rattle.core_invariant.proofs.{Thread, Tcap, TcapFields, thread_in, thread_of, put, put_same, Step, Trace, Open, state_after, last_left}
use Rattle.core_invariant.proofs.{mark_of, mark_in_frame, head_mark, marked_by, cases_word, inside_is, last_left-here, last_left-there}
use Rattle.core_invariant.proofs.{MayFollow, events_of, state_is, run_of, head_of_word, ActiveCall, Core, MarkIs, phase_at, HasTcap, holds}
use Rattle.core_invariant.proofs.{holds_in, held_by, IsExclusive, AsBefore, IsNotKept, none_kept, own_kept, core_bare, marker_inside}
use Rattle.core_invariant.specs.{bare_value, IsOfThread, SaysRunning, Holding.Holding, Invariant.IsOfList, Invariant.Invariant}
use Rattle.kernel_laws.specs.found_stays.proofs.{OwnStay, RunsOn, runs_of}
use Rattle.kept_facts.proofs.Tcaps.{is_tcap, tcap_of, tcap_stays}
use Rattle.{thread_laws.specs.kernel_history.specs.Discipline.KeepsMarked, kernel_laws.specs.kernel_invariant.proofs.SoundRuns.limits_stay}
use Rattle.{thread_laws.specs.trace_laws.proofs.Stays.own_stays_other, core_invariant.proofs.ActBares.open_bare}

none_some : (v : ℕ) → None ≡ Some v → ⊥
none_some v h = cc

-- A step that leaves a word and the frames leaves its mark.
pub mark_kept : (setup : Setting) (t : Trace) (e : Step) (w : Word)
    → mark_of (state_after setup (e ∷ t)) w (last_left setup (e ∷ t) w) ≡ mark_of (state_after setup t) w (last_left setup (e ∷ t) w)
    → last_left setup (e ∷ t) w ≡ last_left setup t w → marked_by setup (e ∷ t) w ≡ marked_by setup t w
mark_kept setup t e w alike left = alike ∙ ap (mark_of (state_after setup t) w) left

-- What a core keeps after its step it kept, the step is on another word or leaves that, and a head that the core has marked it has still.
abbrev pub KeepsLeft : Setting → (ℕ → Core) → Trace → Step → Core → Type 0
KeepsLeft setup cores t e after =
    (f i v : ℕ) → (holds after).bare f i ≡ Some v
    → ((holds (cores e.core)).bare f i ≡ Some v) × (last_left setup (e ∷ t) (EntryAt f i) ≡ last_left setup t (EntryAt f i))
    × ((holds (cores e.core)).marks (EntryAt f 0) ≡ true → (holds after).marks (EntryAt f 0) ≡ true)

-- A load leaves all words; a step on a word that is kept by no core leaves those that are; so does one that gives its word back.
pub keeps_loads : (setup : Setting) (cores : ℕ → Core) (t : Trace) (e : Step) (after : Core) → holds after ≡ holds (cores e.core)
    → ((w : Word) → last_left setup (e ∷ t) w ≡ last_left setup t w) → KeepsLeft setup cores t e after
keeps_loads setup cores t e after still left f i v is =
    (sym (ap (λ h. h.bare f i) still) ∙ is, left (EntryAt f i), λ mark. ap (λ h. h.marks (EntryAt f 0)) still ∙ mark)

pub keeps_there : (setup : Setting) (cores : ℕ → Core) (t : Trace) (e : Step) (after : Core) → holds after ≡ holds (cores e.core)
    → IsNotKept (held_by cores) (word_of e.move) → KeepsLeft setup cores t e after
keeps_there setup cores t e after still free f i v is = (
  sym (ap (λ h. h.bare f i) still) ∙ is,
  last_left-there setup (EntryAt f i) e t
      (λ h. none_some v (sym (free f i (sym h) e.core) ∙ sym (ap (λ h. h.bare f i) still) ∙ is)),
  λ mark. ap (λ h. h.marks (EntryAt f 0)) still ∙ mark,
)

pub keeps_given : (setup : Setting) (cores : ℕ → Core) (t : Trace) (e : Step) (after : Core)
    → AsBefore (holds (cores e.core)) (holds after) (word_of e.move) → KeepsLeft setup cores t e after
keeps_given setup cores t e after bares f i v is =
    let apart : EntryAt f i ≢ word_of e.move = λ h. none_some v (sym (bares.here f i h) ∙ is) in
    (sym (bares.there f i apart) ∙ is, last_left-there setup (EntryAt f i) e t apart, bares.head f i v is)

-- So it keeps nothing more.
pub given_kept : (before after : Holding) (w : Word) → AsBefore before after w → (f i v : ℕ) → after.bare f i ≡ Some v
    → before.bare f i ≡ Some v
given_kept before after w bares f i v is = elim (cases_word (EntryAt f i) w) [
  | inl here ↦ absurd (none_some v (sym (bares.here f i here) ∙ is))
  | inr there ↦ sym (bares.there f i there) ∙ is
]

-- A step of a call that has not been decided, after which its core keeps no more than before: it keeps nothing.
pub exclusive_open : (setup : Setting) (cores : ℕ → Core) (t : Trace) (e : Step) (after : Core) (a : ActiveCall) (call : Call)
    → (cores e.core).active ≡ Some a → phase_at a.call a.stage ≡ Open call
    → ((f i v : ℕ) → (holds after).bare f i ≡ Some v → (holds (cores e.core)).bare f i ≡ Some v)
    → (f i v : ℕ) → (holds after).bare f i ≡ Some v → IsExclusive setup (e ∷ t) e.core f i
exclusive_open setup cores t e after a call active opens keeps f i v is =
    absurd (none_some v (sym (ap (λ o. (holds_in o).bare f i) active ∙ open_bare a call opens f i) ∙ keeps f i v is))

-- A step that leaves the state, and after which the core keeps what it kept.
pub exclusive_still : (setup : Setting) (cores : ℕ → Core) (t : Trace) → Invariant setup cores t → (e : Step) (after : Core)
    → KeepsLeft setup cores t e after → state_after setup (e ∷ t) ≡ state_after setup t
    → ((w : Word) (d : ℕ) → MarkIs setup (held_by (put cores e.core after)) (e ∷ t) w d)
    → (f i v : ℕ) → (holds after).bare f i ≡ Some v → IsExclusive setup (e ∷ t) e.core f i
exclusive_still setup cores t stands e after keeps same marks f i v is = record {
  core = before.core;
  unmarked = mark_kept setup t e (EntryAt f i) (ap (λ s. mark_of s (EntryAt f i) (last_left setup (e ∷ t) (EntryAt f i))) same)
      (keeps f i v is).1 ∙ before.unmarked;
  word = by before.word;
}
  where
    before : IsExclusive setup t e.core f i
    before = stands.exclusive e.core f i v (keeps f i v is).0

    by : IsOfThread setup t e.core f i ⊎ IsOfList setup t e.core f i
        → IsOfThread setup (e ∷ t) e.core f i ⊎ IsOfList setup (e ∷ t) e.core f i
    by (inl w) = inl (record {
      thread = ap (λ s. (s.core e.core).thread) same ∙ w.thread;
      stack = subst (λ s. 1 ≤ length (thread_of s e.core).stack) (sym same) w.stack;
      says = λ first. subst (SaysRunning e.core) (sym (keeps f i v is).1) (w.says first);
    })
    by (inr w) = inr (record {
      list = w.list;
      tcap = subst (λ s. HasTcap s e.core f) (sym same) w.tcap;
      head = (marks (EntryAt f 0) e.core).kept
          (ap (λ k. (holds k).marks (EntryAt f 0)) (put_same cores e.core after e.core refl)
          ∙ (keeps f i v is).2 ((stands.marks (EntryAt f 0) e.core).owned w.head));
    })

-- A step on a word that another core keeps leaves it as found.
abbrev pub SparesExclusive : (ℕ → Core) → Step → Type 0
SparesExclusive cores e =
    (d f i v : ℕ) → d ≢ e.core → (held_by cores d).bare f i ≡ Some v → word_of e.move ≡ EntryAt f i → left_of e.move e.found ≡ e.found

-- So does each load, a step on a word of another kind, and one on a word that no core keeps.
pub exclusive_kept : (cores : ℕ → Core) (e : Step) → left_of e.move e.found ≡ e.found → SparesExclusive cores e
exclusive_kept cores e kept d f i v other is at = kept

pub exclusive_elsewhere : (cores : ℕ → Core) (e : Step) → ((f i : ℕ) → word_of e.move ≢ EntryAt f i) → SparesExclusive cores e
exclusive_elsewhere cores e apart d f i v other is at = absurd (apart f i at)

pub exclusive_free : (cores : ℕ → Core) (e : Step) → IsNotKept (held_by cores) (word_of e.move) → SparesExclusive cores e
exclusive_free cores e free d f i v other is at = absurd (none_some v (sym (free f i at d) ∙ is))

-- A mark in a thread's word is read as in each thread.
abbrev a_thread : Frame
a_thread = Kernel (Thread (record { stack = []; runs_on = None }))

thread_mark_in : (x y : Frame) (i v : ℕ) → 1 ≤ length (thread_in x).stack → 1 ≤ length (thread_in y).stack
    → mark_in_frame x i v ≡ mark_in_frame y i v
thread_mark_in x y i v some some' = one x some ∙ sym (one y some')
  where
    one : (z : Frame) → 1 ≤ length (thread_in z).stack → mark_in_frame z i v ≡ mark_in_frame a_thread i v
    one (Kernel (Thread k)) h = refl
    one _ h = absurd (omega (arith, h))

-- A mark in a list is none.
list_mark : (f : Frame) (i v : ℕ) → IsTrue (is_tcap f) → 1 ≤ i → mark_in_frame f i v ≡ None
list_mark f i v tcap some = ap (λ x. mark_in_frame x i v) (tcap_of f tcap).is
    ∙ ap (λ b. if b then head_mark (head_of_word v) else None) (ne_eqb i 0 (λ none. omega (arith, none, some)))

-- Another core keeps what it kept: its own thread stays, and so does a temporal capability whose head it has marked.
module _ (setup : Setting) (setting : IsSetting setup) (cores : ℕ → Core) (t : Trace) (stands : Invariant setup cores t) (e : Step)
    (follows : MayFollow setup t e) (marked : KeepsMarked setup t e) (spares : SparesExclusive cores e) (d f i v : ℕ) (other : d ≢ e.core)
    (is : (held_by cores d).bare f i ≡ Some v) where
  before : IsExclusive setup t d f i
  before = stands.exclusive d f i v is

  left : last_left setup (e ∷ t) (EntryAt f i) ≡ last_left setup t (EntryAt f i)
  left = elim (cases_word (EntryAt f i) (word_of e.move)) [
    | inl here ↦ last_left-here setup (EntryAt f i) e t here ∙ spares d f i v other is (sym here) ∙ follows.found ∙ ap
        (last_left setup t) (sym here)
    | inr there ↦ last_left-there setup (EntryAt f i) e t there
  ]

  of_thread : IsOfThread setup t d f i → IsExclusive setup (e ∷ t) d f i
  of_thread w = record {
    core = before.core;
    unmarked = mark_kept setup t e (EntryAt f i) alike left ∙ before.unmarked;
    word = inl (record { thread = thread; stack = stack; says = λ first. subst (SaysRunning d) (sym left) (w.says first) });
  }
    where
      stays : OwnStay (state_after setup t) (state_after setup (e ∷ t)) d
      stays = own_stays_other setup setting t stands.legal e follows d before.core other

      thread : ((state_after setup (e ∷ t)).core d).thread ≡ f
      thread = ap (λ k. k.thread) stays.core ∙ w.thread

      stack : 1 ≤ length (thread_of (state_after setup (e ∷ t)) d).stack
      stack = subst (λ k. 1 ≤ length k.stack) (sym stays.thread) w.stack

      alike : mark_of (state_after setup (e ∷ t)) (EntryAt f i) (last_left setup (e ∷ t) (EntryAt f i))
          ≡ mark_of (state_after setup t) (EntryAt f i) (last_left setup (e ∷ t) (EntryAt f i))
      alike = thread_mark_in ((state_after setup (e ∷ t)).frame f) ((state_after setup t).frame f) i (last_left setup (e ∷ t) (EntryAt f i))
          (subst (λ (g : ℕ). 1 ≤ length (thread_in ((state_after setup (e ∷ t)).frame g)).stack) thread stack)
          (subst (λ (g : ℕ). 1 ≤ length (thread_in ((state_after setup t).frame g)).stack) w.thread w.stack)

  of_list : IsOfList setup t d f i → IsExclusive setup (e ∷ t) d f i
  of_list w = record {
    core = before.core;
    unmarked = list_mark ((state_after setup (e ∷ t)).frame f) i (last_left setup (e ∷ t) (EntryAt f i)) stays.tcap w.list;
    word = inr (record { list = w.list; tcap = stays; head = mark_kept setup t e (EntryAt f 0) alike head_left ∙ w.head });
  }
    where
      stays : HasTcap (state_after setup (e ∷ t)) d f
      stays = tcap_stays setup setting t stands.legal e follows d before.core other
          (sym (inside_is setup t d) ∙ marker_inside setup cores t stands (EntryAt f 0) d w.head) f w.tcap

      alike : mark_of (state_after setup (e ∷ t)) (EntryAt f 0) (last_left setup (e ∷ t) (EntryAt f 0))
          ≡ mark_of (state_after setup t) (EntryAt f 0) (last_left setup (e ∷ t) (EntryAt f 0))
      alike = ap (λ x. mark_in_frame x 0 (last_left setup (e ∷ t) (EntryAt f 0)))
          (tcap_of ((state_after setup (e ∷ t)).frame f) stays.tcap).is
          ∙ sym (ap (λ x. mark_in_frame x 0 (last_left setup (e ∷ t) (EntryAt f 0)))
          (tcap_of ((state_after setup t).frame f) w.tcap.tcap).is)

      head_left : last_left setup (e ∷ t) (EntryAt f 0) ≡ last_left setup t (EntryAt f 0)
      head_left = elim (cases_word (EntryAt f 0) (word_of e.move)) [
        | inl here ↦ last_left-here setup (EntryAt f 0) e t here ∙ marked d (ap (marked_by setup t) (sym here) ∙ w.head) other
            ∙ follows.found ∙ ap (last_left setup t) (sym here)
        | inr there ↦ last_left-there setup (EntryAt f 0) e t there
      ]

  pub exclusive_other : IsExclusive setup (e ∷ t) d f i
  exclusive_other = by before.word
    where
      by : IsOfThread setup t d f i ⊎ IsOfList setup t d f i → IsExclusive setup (e ∷ t) d f i
      by (inl w) = of_thread w
      by (inr w) = of_list w

-- A word that a core keeps is one of its thread, where its frame is no temporal capability, or where the core has not marked its first
-- word.
pub exclusive_thread : (setup : Setting) (t : Trace) (d f i : ℕ) → IsExclusive setup t d f i
    → (IsTrue (is_tcap ((state_after setup t).frame f)) → ⊥) → IsOfThread setup t d f i
exclusive_thread setup t d f i has not = by has.word
  where
    by : IsOfThread setup t d f i ⊎ IsOfList setup t d f i → IsOfThread setup t d f i
    by (inl w) = w
    by (inr w) = absurd (not w.tcap.tcap)

pub exclusive_unmarked : (setup : Setting) (cores : ℕ → Core) (t : Trace) → Invariant setup cores t → (d f i : ℕ)
    → IsExclusive setup t d f i
    → (held_by cores d).marks (EntryAt f 0) ≡ false → IsOfThread setup t d f i
exclusive_unmarked setup cores t stands d f i has none = by has.word
  where
    by : IsOfThread setup t d f i ⊎ IsOfList setup t d f i → IsOfThread setup t d f i
    by (inl w) = w
    by (inr w) = absurd (false≢true (sym none ∙ (stands.marks (EntryAt f 0) d).owned w.head))

-- A frame of which a core keeps a word as one of its thread is a thread, and no temporal capability.
thread_no_tcap : (setup : Setting) (t : Trace) (d f i : ℕ) → IsOfThread setup t d f i
    → IsTrue (is_tcap ((state_after setup t).frame f)) → ⊥
thread_no_tcap setup t d f i w tcap =
    let some : 1 ≤ length (thread_in ((state_after setup t).frame f)).stack =
    subst (λ (g : ℕ). 1 ≤ length (thread_in ((state_after setup t).frame g)).stack) w.thread w.stack in
    let none : length (thread_in ((state_after setup t).frame f)).stack ≡ 0 =
    ap (λ x. length (thread_in x).stack) (tcap_of ((state_after setup t).frame f) tcap).is in
    omega (arith, some, none)

-- A frame on which a core runs is no temporal capability.
pub runs_no_tcap : (x : Frame) (d : ℕ) → (thread_in x).runs_on ≡ Some d → IsTrue (is_tcap x) → ⊥
runs_no_tcap x d runs tcap = none_some d (sym (ap (λ y. (thread_in y).runs_on) (tcap_of x tcap).is) ∙ runs)

-- Whether words of a frame may be kept without a mark: it is a thread or a temporal capability.
abbrev pub may_keep : Frame → Bool
may_keep (Kernel (Thread k)) = true
may_keep (Kernel (Tcap q)) = true
may_keep _ = false

no_stack : (x : Frame) → may_keep x ≡ false → length (thread_in x).stack ≡ 0
no_stack (Kernel (Thread k)) not = absurd (false≢true (sym not))
no_stack (Kernel (Tcap q)) not = absurd (false≢true (sym not))
no_stack _ not = refl

-- A word of another frame is kept by no core without a mark, and settles to itself where it carries none.
pub not_exclusive : (setup : Setting) (cores : ℕ → Core) (t : Trace) → Invariant setup cores t → (f : ℕ)
    → may_keep ((state_after setup t).frame f) ≡ false → (i d : ℕ) → (held_by cores d).bare f i ≡ None
not_exclusive setup cores t stands f not i d = by ((held_by cores d).bare f i) refl
  where
    no_word : IsOfThread setup t d f i ⊎ IsOfList setup t d f i → ⊥
    no_word (inl w) =
        let most : 1 ≤ length (thread_in ((state_after setup t).frame f)).stack =
        subst (λ (g : ℕ). 1 ≤ length (thread_in ((state_after setup t).frame g)).stack) w.thread w.stack in
        let none = no_stack ((state_after setup t).frame f) not in
        omega (arith, most, none)
    no_word (inr w) = false≢true (sym not ∙ ap may_keep (tcap_of ((state_after setup t).frame f) w.tcap.tcap).is)

    by : (o : Option ℕ) → (held_by cores d).bare f i ≡ o → (held_by cores d).bare f i ≡ None
    by None is = is
    by (Some v) is = absurd (no_word (stands.exclusive d f i v is).word)

pub not_exclusive_value : (setup : Setting) (cores : ℕ → Core) (t : Trace) → Invariant setup cores t → (f : ℕ)
    → may_keep ((state_after setup t).frame f) ≡ false → (i x : ℕ) → bare_value (held_by cores) (EntryAt f i) x ≡ x
not_exclusive_value setup cores t stands f not i x = none_kept 8 (held_by cores) f i x (not_exclusive setup cores t stands f not i)

-- So where no core keeps a word of this frame and index.
pub unkept_word : (cores : ℕ → Core) (f i : ℕ) → ((d : ℕ) → (held_by cores d).bare f i ≡ None) → IsNotKept (held_by cores) (EntryAt f i)
unkept_word cores f i none g j at d = subst (λ (n : ℕ). (held_by cores d).bare n j ≡ None) (frame f i g j at)
    (subst (λ (n : ℕ). (held_by cores d).bare f n ≡ None) (index f i g j at) (none d))
  where
    frame : (f i g j : ℕ) → EntryAt f i ≡ EntryAt g j → f ≡ g
    frame f i g j h = cc

    index : (f i g j : ℕ) → EntryAt f i ≡ EntryAt g j → i ≡ j
    index f i g j h = cc

pub not_exclusive_word : (setup : Setting) (cores : ℕ → Core) (t : Trace) → Invariant setup cores t → (f i : ℕ)
    → may_keep ((state_after setup t).frame f) ≡ false → IsNotKept (held_by cores) (EntryAt f i)
not_exclusive_word setup cores t stands f i not = unkept_word cores f i (not_exclusive setup cores t stands f not i)

-- So it is after a step whose core keeps none of it.
pub not_exclusive_after : (setup : Setting) (cores : ℕ → Core) (t : Trace) → Invariant setup cores t → (c : ℕ) (after : Core) (f i : ℕ)
    → may_keep ((state_after setup t).frame f) ≡ false → (holds after).bare f i ≡ None → (x : ℕ)
    → bare_value (held_by (put cores c after)) (EntryAt f i) x ≡ x
not_exclusive_after setup cores t stands c after f i not none x =
    none_kept 8 (held_by (put cores c after)) f i x
    (λ d. core_bare cores c after f i (none ∙ sym (not_exclusive setup cores t stands f not i c)) d
    ∙ not_exclusive setup cores t stands f not i d)

-- A word of a temporal capability is kept by no core without a mark, where it is the head, or none that has marked the head keeps it.
module _ (setup : Setting) (cores : ℕ → Core) (t : Trace) (stands : Invariant setup cores t) (f : ℕ) (q : TcapFields)
    (is : (state_after setup t).frame f ≡ Kernel (Tcap q)) where
  tcap_is : IsTrue (is_tcap ((state_after setup t).frame f))
  tcap_is = subst (λ x. IsTrue (is_tcap x)) (sym is) refl

  pub not_exclusive_list : (i : ℕ) → ((d : ℕ) → 1 ≤ i → marked_by setup t (EntryAt f 0) ≡ Some d → (held_by cores d).bare f i ≡ None) →
      (d : ℕ)
      → (held_by cores d).bare f i ≡ None
  not_exclusive_list i marker d = by ((held_by cores d).bare f i) refl
    where
      of_word : IsOfThread setup t d f i ⊎ IsOfList setup t d f i → (held_by cores d).bare f i ≡ None
      of_word (inl w) = absurd (thread_no_tcap setup t d f i w tcap_is)
      of_word (inr w) = marker d w.list w.head

      by : (o : Option ℕ) → (held_by cores d).bare f i ≡ o → (held_by cores d).bare f i ≡ None
      by None none = none
      by (Some v) some = of_word (stands.exclusive d f i v some).word

  pub not_exclusive_list_value : (i x : ℕ)
      → ((d : ℕ) → 1 ≤ i → marked_by setup t (EntryAt f 0) ≡ Some d → (held_by cores d).bare f i ≡ None)
      → bare_value (held_by cores) (EntryAt f i) x ≡ x
  not_exclusive_list_value i x marker = none_kept 8 (held_by cores) f i x (not_exclusive_list i marker)

  pub not_exclusive_head : (d : ℕ) → (held_by cores d).bare f 0 ≡ None
  not_exclusive_head = not_exclusive_list 0 (λ d some mark. absurd (omega (arith, some)))

  pub not_exclusive_head_word : IsNotKept (held_by cores) (EntryAt f 0)
  not_exclusive_head_word = unkept_word cores f 0 not_exclusive_head

  pub not_exclusive_head_value : (x : ℕ) → bare_value (held_by cores) (EntryAt f 0) x ≡ x
  not_exclusive_head_value x = none_kept 8 (held_by cores) f 0 x not_exclusive_head

pub node_keeps_none : (x : Frame) → IsTrue (is_node x) → may_keep x ≡ false
node_keeps_none (Kernel Table) node = refl
node_keeps_none (Kernel Leaf) node = refl
node_keeps_none (Kernel Pages) node = refl
node_keeps_none (Kernel Pleaf) node = refl
node_keeps_none _ node = absurd (false≢true node)

-- A core's thread runs on it.
pub runs_on_own : (setup : Setting) → IsSetting setup → (cores : ℕ → Core) (t : Trace) → Invariant setup cores t → (b : ℕ) → b < setup.cores
    → (thread_in ((state_after setup t).frame ((state_after setup t).core b).thread)).runs_on ≡ Some b
runs_on_own setup setting cores t stands b below =
    subst (λ s. RunsOn s b) (sym (state_is setup t))
    (runs_of setup setting (events_of t) (run_of setup t stands.legal) b
    (subst (λ (n : ℕ). b < n) (sym (ap (λ l. l.cores) (limits_stay setup (events_of t)))) below))

-- No word has two keepers: a thread runs on one core, and a head carries one mark.
pub one_keeper : (setup : Setting) → IsSetting setup → (cores : ℕ → Core) (t : Trace) → Invariant setup cores t → (f i c d v u : ℕ)
    → (held_by cores c).bare f i ≡ Some v → (held_by cores d).bare f i ≡ Some u → c ≡ d
one_keeper setup setting cores t stands f i c d v u is is' = by (stands.exclusive c f i v is).word (stands.exclusive d f i u is').word
  where
    runs : (b : ℕ) → b < setup.cores → IsOfThread setup t b f i → (thread_in ((state_after setup t).frame f)).runs_on ≡ Some b
    runs b below w = ap (λ (g : ℕ). (thread_in ((state_after setup t).frame g)).runs_on) (sym w.thread)
        ∙ runs_on_own setup setting cores t stands b below

    same_core : (x y : ℕ) → Some x ≡ Some y → x ≡ y
    same_core x y h = cc

    by : IsOfThread setup t c f i ⊎ IsOfList setup t c f i → IsOfThread setup t d f i ⊎ IsOfList setup t d f i → c ≡ d
    by (inl w) (inl x) = same_core c d (sym (runs c (stands.exclusive c f i v is).core w) ∙ runs d (stands.exclusive d f i u is').core x)
    by (inl w) (inr u) = absurd (thread_no_tcap setup t c f i w u.tcap.tcap)
    by (inr w) (inl u) = absurd (thread_no_tcap setup t d f i u w.tcap.tcap)
    by (inr w) (inr u) = same_core c d (sym w.head ∙ u.head)

-- So a word that a core keeps settles to what this has still to store there.
pub own_value : (setup : Setting) → IsSetting setup → (cores : ℕ → Core) (t : Trace) → Invariant setup cores t → (c f i v x : ℕ)
    → (held_by cores c).bare f i ≡ Some v → bare_value (held_by cores) (EntryAt f i) x ≡ v
own_value setup setting cores t stands c f i v x is =
    own_kept 8 (held_by cores) f i x v c
    (let below = (stands.exclusive c f i v is).core in let most = setting.most_cores in omega (arith, below, most)) is others
  where
    others : (b : ℕ) → b ≢ c → (held_by cores b).bare f i ≡ None
    others b other = by ((held_by cores b).bare f i) refl
      where
        by : (o : Option ℕ) → (held_by cores b).bare f i ≡ o → (held_by cores b).bare f i ≡ None
        by None none = none
        by (Some u) some = absurd (other (one_keeper setup setting cores t stands f i b c u v some is))

-- A core that keeps none.
pub exclusive_none : (setup : Setting) (t : Trace) (c : ℕ) (after : Core) → ((f i : ℕ) → (holds after).bare f i ≡ None) → (f i v : ℕ)
    → (holds after).bare f i ≡ Some v → IsExclusive setup t c f i
exclusive_none setup t c after none f i v is = absurd (none_some v (sym (none f i) ∙ is))
