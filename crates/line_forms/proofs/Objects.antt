-- What a `make` makes, by its word.
use Rattle.std.proofs.Common.{◌≡◌, ℕ, List, Bool, true, false, if◌then◌else◌, Option, Some, None, slice_get, codes, refl}
use Rattle.std.proofs.Common.{option_and_then, unwrap_or, ap, ◌∙◌}
use Rattle.std.proofs.lemmas.Slice.Eq.{bytes_eq-Decides}
use Rattle.call_reader.specs.{Form, object_of, spk_nums.specs.declared.verbs.Object.Object}
use Rattle.{line_reader.specs.Arguments.is_word, line_forms.specs.Calls.is_name, line_forms.specs.Calls.is_at}
use Rattle.{line_forms.specs.Calls.object_in}

-- the form of a line after what it makes
abbrev pub after_made : Form → Object → Form
after_made (Form.Made letter next) o = next o
after_made f o = f

abbrev made_by : Option (List ℕ) → Object
made_by o = unwrap_or (option_and_then object_of o) Object.Table

same_word : (word name : List ℕ) → is_word word name ≡ true → word ≡ name
unfolding is_word
same_word word name same = (bytes_eq-Decides word name).0 same

named_by : (o : Option (List ℕ)) (name : List ℕ) (x : Object) → object_of name ≡ Some x → is_name name o ≡ true → made_by o ≡ x
named_by None name x is same = absurd cc
named_by (Some word) name x is same = ap (λ w. made_by (Some w)) (same_word word name same) ∙ ap (λ r. unwrap_or r Object.Table) is

-- The object of a word is that one.
pub named : (words : List (List ℕ)) (place : ℕ) (name : List ℕ) (x : Object) → object_of name ≡ Some x → is_at words place name ≡ true
    → object_in words place ≡ x
named words place name x is same = named_by (slice_get words place) name x is same

-- What goes alike by the objects that need no arguments of their own goes by each of them as by no object.
module _ {A : Type 0} (f : Object → A) (leaf : f Object.Leaf ≡ f Object.Table) (pages : f Object.Pages ≡ f Object.Table)
    (pleaf : f Object.Pleaf ≡ f Object.Table) where
  plain_of : (a b c d : Bool) → f (unwrap_or (if a then Some Object.Table else (if b then Some Object.Leaf
      else (if c then Some Object.Pages else (if d then Some Object.Pleaf else None)))) Object.Table) ≡ f Object.Table
  plain_of true b c d = refl
  plain_of false true c d = leaf
  plain_of false false true d = pages
  plain_of false false false true = pleaf
  plain_of false false false false = refl

  plain_by : (o : Option (List ℕ)) → is_name (codes "thread") o ≡ false → is_name (codes "tcap") o ≡ false
      → is_name (codes "comp") o ≡ false → f (made_by o) ≡ f Object.Table
  unfolding object_of
  plain_by None thread tcap comp = refl
  plain_by (Some w) thread tcap comp = rw (thread, tcap, comp)
      (plain_of (is_word w (codes "table")) (is_word w (codes "leaf")) (is_word w (codes "pages")) (is_word w (codes "pleaf")))

  pub plain : (words : List (List ℕ)) (place : ℕ) → is_at words place (codes "thread") ≡ false → is_at words place (codes "tcap") ≡ false
      → is_at words place (codes "comp") ≡ false → f (object_in words place) ≡ f Object.Table
  plain words place thread tcap comp = plain_by (slice_get words place) thread tcap comp

-- the objects that need arguments of their own, by their words
pub thread_is : object_of (codes "thread") ≡ Some Object.Thread
unfolding object_of is_word
thread_is = refl

pub tcap_is : object_of (codes "tcap") ≡ Some Object.Tcap
unfolding object_of is_word
tcap_is = refl

pub comp_is : object_of (codes "comp") ≡ Some Object.Comp
unfolding object_of is_word
comp_is = refl
