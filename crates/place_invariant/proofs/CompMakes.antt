-- A call that makes a component: its names, and what is left of its rule after them.
use Rattle.count_invariant.specs as low
use low.step_ways.proofs.{to_use, ◌≡◌, ◌≢◌, ◌+◌, ℕ, true, pos, List, [], ◌∷◌, refl, sym, ◌∙◌, ap, IsTrue, false≢true, Capability, State}
use low.step_ways.proofs.{Frame, Kernel, Blank, Table, Pages, CompFields, Target, Under, found, only, fits, Rule, Vacant, Does, Found}
use low.step_ways.proofs.{named, outside, not_blank, rule_of, of_kind, plan_for, Leads, LeadsIn, rule_after, names_after, NextFree, next_of}
use low.step_ways.proofs.{comp_due_list, CompMaking, Due, AreDuesApart, Make as make_call, plain_cap, Kind}
use low.boot_words.specs.kernel_rules.specs.{epoch_of, not_taken, Component as component_edit, Fill as fill_edit, Nothing as no_value, Make}
use Rattle.std.proofs.lemmas.List.Elements.{All-nil, All-cons}

-- What the component has.
abbrev pub new_comp : State → ℕ → ℕ → ℕ → CompFields
new_comp s x p l = record { table = x; pages = p; number = l; epoch = epoch_of (s.number l) + 1 }

-- What is left of the rule of such a call after its names.
abbrev pub comp_rest : State → Capability → ℕ → ℕ → ℕ → ℕ → Target → Rule
comp_rest s range f x p l target =
    Vacant target λ at. Does (outside (found range) f ∷ not_blank s f ∷ not_taken s l) no_value
    (component_edit f (new_comp s x p l) ∷ fill_edit at (plain_cap Kind.Comp f) ∷ [])

-- Its names have led to a range, a table, and the table and the pages of the component.
pub record IsCompMake (s : State) (c r f u b x p l : ℕ) (ks : List Capability) : Type 0 where
  pub range : Capability
  pub second : Capability
  pub table : Capability
  pub pages : Capability
  pub found_is : ks ≡ range ∷ second ∷ table ∷ pages ∷ []
  pub first : named s c r (to_use (only Kind.Range)) ≡ Found range
  pub under : named s c u (to_use (only Kind.Table)) ≡ Found second
  pub third : named s c x (to_use (only Kind.Table)) ≡ Found table
  pub fourth : named s c p (to_use (only Kind.Pages)) ≡ Found pages
  pub rule : rule_after (rule_of s c (make_call (Make.Comp x p l) r f u b)) ks
      ≡ comp_rest s range f table.frame pages.frame l (Under (found second) b)
  pub next : next_of (plan_for (make_call (Make.Comp x p l) r f u b)) ks ≡ NextFree (Under (found second) b)

pub comp_make : (s : State) (c r f u b x p l : ℕ) (ks : List Capability)
    → Leads (LeadsIn s c) (plan_for (make_call (Make.Comp x p l) r f u b)).names [] ks
    → names_after (plan_for (make_call (Make.Comp x p l) r f u b)).names ks ≡ []
    → IsCompMake s c r f u b x p l ks
comp_make s c r f u b x p l [] leads none = absurd (not_none none)
  where
    not_none : of_kind Kind.Range r ∷ of_kind Kind.Table u ∷ of_kind Kind.Table x ∷ of_kind Kind.Pages p ∷ [] ≡ [] → ⊥
    not_none h = cc
comp_make s c r f u b x p l (k ∷ []) leads none = absurd (not_none none)
  where
    not_none : of_kind Kind.Table u ∷ of_kind Kind.Table x ∷ of_kind Kind.Pages p ∷ [] ≡ [] → ⊥
    not_none h = cc
comp_make s c r f u b x p l (k ∷ j ∷ []) leads none = absurd (not_none none)
  where
    not_none : of_kind Kind.Table x ∷ of_kind Kind.Pages p ∷ [] ≡ [] → ⊥
    not_none h = cc
comp_make s c r f u b x p l (k ∷ j ∷ i ∷ []) leads none = absurd (not_none none)
  where
    not_none : of_kind Kind.Pages p ∷ [] ≡ [] → ⊥
    not_none h = cc
comp_make s c r f u b x p l (k ∷ j ∷ i ∷ h ∷ []) leads none = record {
  range = k;
  second = j;
  table = i;
  pages = h;
  found_is = refl;
  first = leads.0;
  under = leads.1.0;
  third = leads.1.1.0;
  fourth = leads.1.1.1.0;
  rule = refl;
  next = refl;
}
comp_make s c r f u b x p l (k ∷ j ∷ i ∷ h ∷ g ∷ ks) leads none = absurd leads.1.1.1.1

-- Its frame, which is blank, its table and its pages differ.
is_table : (y : Frame) → IsTrue (fits Kind.Table y) → y ≡ Kernel Table
is_table (Kernel Table) h = refl
is_table _ h = absurd (false≢true h)

is_pages : (y : Frame) → IsTrue (fits Kind.Pages y) → y ≡ Kernel Pages
is_pages (Kernel Pages) h = refl
is_pages _ h = absurd (false≢true h)

pub comp_dues_apart : (s : State) (m : CompMaking) → s.frame m.frame ≡ Kernel Blank → IsTrue (fits Kind.Table (s.frame m.table))
    → IsTrue (fits Kind.Pages (s.frame m.pages)) → AreDuesApart (comp_due_list m)
comp_dues_apart s m blank table pages = (
  All-cons (λ (y : Due). m.frame ≢ y.frame) (one m.table) (one m.pages ∷ [])
      (λ same. not_table (sym blank ∙ ap s.frame same ∙ is_table (s.frame m.table) table))
      (All-cons (λ (y : Due). m.frame ≢ y.frame) (one m.pages) []
      (λ same. not_pages (sym blank ∙ ap s.frame same ∙ is_pages (s.frame m.pages) pages)) (All-nil (λ (y : Due). m.frame ≢ y.frame))),
  (
    All-cons (λ (y : Due). m.table ≢ y.frame) (one m.pages) []
        (λ same. apart (sym (is_table (s.frame m.table) table) ∙ ap s.frame same ∙ is_pages (s.frame m.pages) pages))
        (All-nil (λ (y : Due). m.table ≢ y.frame)),
    (All-nil (λ (y : Due). m.pages ≢ y.frame), tt),
  ),
)
  where
    one : ℕ → Due
    one f = record { frame = f; change = pos 1 }

    not_table : Kernel Blank ≡ Kernel Table → ⊥
    not_table h = cc

    not_pages : Kernel Blank ≡ Kernel Pages → ⊥
    not_pages h = cc

    apart : Kernel Table ≡ Kernel Pages → ⊥
    apart h = cc
