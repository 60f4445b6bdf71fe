-- A call reads the word of the component to which its first name has led, before it looks its target up.
use Rattle.comp_invariant.specs.step_ways.proofs as low
use low.{◌≡◌, inl, ℕ, ◌<◌, ◌||◌, true, false, List, [], ◌∷◌, Some, None, refl, sym, ◌∙◌, ap, subst, eq-eqb, Capability, Setting, IsSetting}
use low.{Kind, Call, Gate, comp_of_word, CompWord, EntryAt, LoadOf, State, Kernel, Comp, PlaceOf, comp_in, to_use, only, named_by, only_is}
use low.{opened, events_of, is_one_of, footprint_frames, IsLegal, mark_in_frame, marked_by, stamp, Step, Trace, Open, phase, state_after}
use low.{last_left, sound_of, opened_is, Look, First, plan_for, Leads, LeadsIn, Next, Lookup, Read, reads_of, Undecided, ActiveCall, Core}
use low.{settled_by, IsFrameWord, ReadIs, KnowsUndecided, phase_at, holds_at, held_by, Invariant, names_on, may_keep, not_exclusive_value}
use low.{HasComp, OnlyLooks, step_to, call_is, GoodTook, Loads.reads_on}
use Rattle.{comp_invariant.specs.core_invariant.specs.LooksFor, comp_invariant.specs.core_invariant.specs.ReadBefore}
use Rattle.{comp_invariant.specs.frame_words.specs.Comp.CompFits, comp_invariant.specs.frame_words.proofs.CompLemmas.comp_spells}
use Rattle.{comp_invariant.specs.kernel_invariant.proofs.Facts.named_good}
use Rattle.{comp_invariant.specs.plan_ways.proofs.InFootprint.footprint_found, comp_invariant.specs.call_stages.specs.Steps.took_read}
use Rattle.{comp_invariant.specs.kept_facts.proofs.Carries.looks_on, switch_invariant.specs.live_invariant.proofs.KillStarts.comp_named}
use Rattle.{switch_invariant.specs.live_invariant.proofs.Numbers.comp_is, comp_invariant.specs.count_invariant.proofs.Acquiring.plan_leads}

-- It is a component, which no other core may retype.
pub reads_comp : (setup : Setting) → IsSetting setup → (t : Trace) → IsLegal setup t → (c : ℕ) (call : Call) → phase t c ≡ Open call
    → (ks : List Capability) → Leads (LeadsIn (state_after setup t) c) (plan_for call).names [] ks
    → (f : ℕ) → reads_of call ks ≡ Some f → HasComp (state_after setup t) c f
reads_comp setup setting t legal c (Gate n u b) is_open [] lead f reads = absurd (cc)
reads_comp setup setting t legal c (Gate n u b) is_open (k ∷ ks) lead f reads =
    let good = named_good (state_after setup t) (opened (events_of t)) c n (to_use (only Kind.Comp)) k (sound_of setup setting t legal)
    (opened_is t c (Gate n u b) is_open) lead.0 in
    subst (HasComp (state_after setup t) c) (frame_same k.frame f reads)
    (comp_named setup setting t legal c (Gate n u b) is_open n k (only_is Kind.Comp k.kind good.1) lead.0)
  where
    frame_same : (g f : ℕ) → Some g ≡ Some f → g ≡ f
    frame_same g f h = cc
reads_comp setup setting t legal c call is_open ks lead f reads = absurd (cc)

-- Its frame is in the call's footprint.
reads_footprint : (setup : Setting) → IsSetting setup → (t : Trace) → IsLegal setup t → (c : ℕ) (call : Call) → phase t c ≡ Open call
    → (ks : List Capability) → Leads (LeadsIn (state_after setup t) c) (plan_for call).names [] ks
    → (f : ℕ) → reads_of call ks ≡ Some f → is_one_of f (footprint_frames (state_after setup t) c call) ≡ true
reads_footprint setup setting t legal c (Gate n u b) is_open [] lead f reads = absurd (cc)
reads_footprint setup setting t legal c (Gate n u b) is_open (k ∷ ks) lead f reads =
    let good = named_good (state_after setup t) (opened (events_of t)) c n (to_use (only Kind.Comp)) k (sound_of setup setting t legal)
    (opened_is t c (Gate n u b) is_open) lead.0 in
    footprint_found (state_after setup t) c (Gate n u b) (k ∷ ks) lead First k refl f
    (ap (λ (x : Kind). is_one_of f (named_by x k.frame)) (only_is Kind.Comp k.kind good.1)
    ∙ ap (λ b. b || false) (eq-eqb k.frame f (frame_same k.frame f reads)))
  where
    frame_same : (g f : ℕ) → Some g ≡ Some f → g ≡ f
    frame_same g f h = cc
reads_footprint setup setting t legal c call is_open ks lead f reads = absurd (cc)

-- The load of the component's word.
module _ (setup : Setting) (setting : IsSetting setup) (cores : ℕ → Core) (t : Trace) (stands : Invariant setup cores t) (c : ℕ)
    (here : c < setup.cores)
    (a : ActiveCall) (active : (cores c).active ≡ Some a) (f : ℕ) (look : Look) (stage_is : a.stage ≡ Undecided (Read f look))
    (has : KnowsUndecided setup t c (cores c).own.table a (Read f look)) where
  abbrev s : State
  s = state_after setup t

  abbrev was : ℕ
  was = last_left setup t (EntryAt f 2)

  abbrev life : CompWord
  life = record { number = (comp_in (s.frame f)).number; epoch = (comp_in (s.frame f)).epoch }

  opens : phase_at a.call a.stage ≡ Open a.call
  opens = ap (phase_at a.call) stage_is

  is_open : phase t c ≡ Open a.call
  is_open = (call_is setup setting cores t stands c here a active).phase ∙ opens

  holds_comp : s.frame f ≡ Kernel (Comp (comp_in (s.frame f)))
  holds_comp = comp_is (s.frame f) has.knows.comp.comp

  unmarked : marked_by setup t (EntryAt f 2) ≡ None
  unmarked = ap (λ x. mark_in_frame x 2 was) holds_comp

  says_life : comp_of_word was ≡ Some life
  says_life = subst (λ x. IsFrameWord s.limits.frames x (s.place f 2) (stamp setup t (PlaceOf f 2)) 2 was) holds_comp
      (subst (λ (n : ℕ). IsFrameWord s.limits.frames (s.frame f) (s.place f 2) (stamp setup t (PlaceOf f 2)) 2 n)
      (not_exclusive_value setup cores t stands f (ap may_keep holds_comp) 2 was)
      (subst (λ o. IsFrameWord s.limits.frames (s.frame f) (s.place f 2) (stamp setup t (PlaceOf f 2)) 2
      (settled_by o (held_by cores) (EntryAt f 2) was)) unmarked (stands.words (EntryAt f 2))))

  life_fits : CompFits life
  life_fits = (comp_spells (Some life) was (sym says_life)).0

  leads : Leads (LeadsIn s c) (plan_for a.call).names [] a.found
  leads = plan_leads setup setting cores t stands c here a active has.names

  loading : OnlyLooks setup t c a.call (LoadOf (EntryAt f 2))
  loading = record {
    of_call = record {
      moves = refl;
      footprint = inl (reads_footprint setup setting t stands.legal c a.call is_open a.found leads f has.knows.reads);
    };
    kept = refl;
    apart = λ d. refl;
  }

  has_read_good : GoodTook setup cores t c (LoadOf (EntryAt f 2)) (took_read a look (Some life))
  has_read_good lands =
      let e : Step = step_to c None (LoadOf (EntryAt f 2)) was None None in
      reads_on setup setting cores t stands c here a active (LoadOf (EntryAt f 2)) a.found (Some life.epoch) (Undecided (Lookup look))
      loading lands (sym (ap (λ s. holds_at s a.counts) stage_is)) opens
      (λ carries. record {
        acts = has.acts;
        names = names_on setup setting t e stands.legal c a.call is_open carries (cores c).own.table (plan_for a.call) a.found has.names;
        knows = record {
          looks = subst (λ (x : Next). LooksFor setup (e ∷ t) c (cores c).own.table x look) (sym has.knows.next)
              (looks_on setup setting t e stands.legal c a.call is_open carries has.knows.target look has.knows.looks);
          has_read = subst (ReadBefore s c (reads_of a.call a.found) (Some life.epoch)) (sym has.knows.next)
              (subst (λ o. ReadIs s c o (Some life.epoch)) (sym has.knows.reads)
              (record {
                comp = has.knows.comp;
                life = life;
                has_life = record { number = refl; epoch = refl };
                fits = life_fits;
                epoch = refl;
              }));
        };
      })

  pub read_good : GoodTook setup cores t c (LoadOf (EntryAt f 2)) (took_read a look (comp_of_word was))
  read_good = subst (λ o. GoodTook setup cores t c (LoadOf (EntryAt f 2)) (took_read a look o)) (sym says_life) has_read_good
