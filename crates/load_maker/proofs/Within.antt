-- The script of every number is within the limits, and its text says it.
use Rattle.std.proofs.Common.{◌≡◌, ◌∙◌, ℕ, ◌<◌, ◌≤◌, true, false, List, [], ◌∷◌, ◌++◌, length, All, Ok, refl, sym, subst, arith, inl, inr}
use Rattle.std.proofs.Common.{length-append}
use Rattle.load_maker.specs.{below, a_call, an_item, load_text}
use Rattle.script_printer.specs.{printed, IsCallWithin, IsWithin}
use Rattle.script_reader.specs.{Meaning, AtMost, BelowCores, script_of}
use Rattle.script_reader.specs.call_reader.specs.{Form, MaySay, IsVerbIn, CallLines.object_form, FirstWords.is_late}
use Rattle.std.proofs.{lemmas.Bool.cases_lt, lemmas.List.get_or_past, lemmas.List.Elements.All-append}
use Rattle.std.proofs.{lemmas.List.Elements.All-from_recursion, lemmas.List.Elements.All-get_or}
use Rattle.spk_nums.specs.{declared.calls.Call.Call, declared.calls.Call.TheVariants.Copy}
use Rattle.spk_nums.specs.{declared.calls.Call.TheVariants.Make as make_call, declared.calls.Call.TheVariants.Map}
use Rattle.spk_nums.specs.{declared.calls.Call.TheVariants.Flush, declared.calls.Call.TheVariants.Tick, declared.steps.Item.Item}
use Rattle.spk_nums.specs.{declared.verbs.Verb.Verb, declared.verbs.Object.Object, declared.kinds.FrameKind.FrameKind, Rights.both}
use Rattle.spk_nums.specs.{CallLimits.InLimits, Setting.GrantFits, Setting.IsSetting}
use Rattle.script_printer.proofs.{LineCounts.few_lines, PrintedLines.printed_read}
use Rattle.load_maker.specs.{Draws.Draw, Draws.done, Loads.a_slot, Loads.a_frame, Loads.a_tcap, Loads.a_look, Loads.a_copy, Loads.a_remove}
use Rattle.load_maker.specs.{Loads.a_retype, Loads.a_make, Loads.a_map, Loads.an_unmap, Loads.a_touch, Loads.a_tick, Loads.a_transfer}
use Rattle.load_maker.specs.{Loads.a_test, Loads.call_numbered, Loads.the_grant, Loads.the_setup, Loads.first_calls, Loads.drawn_calls}
use Rattle.load_maker.specs.{Loads.drawn_lists, Loads.first_items, Loads.drawn_items, Loads.script_made, Accepted.IsAccepted}
use Rattle.load_maker.proofs.Repeats.{below_range, repeated_all, repeated_length}
use Rattle.{script_reader.specs.script_tokens.specs.Words.line_count, script_printer.specs.Law.most_lines}

-- ---- calls

-- each call that is drawn so is within the limits of version 1
abbrev IsIn : Call → Type 0
IsIn c = IsCallWithin 1 c

abbrev Draws_within : Draw Call → Type 0
Draws_within d = (x : ℕ) → IsIn (d x).0

small : (m x most : ℕ) → 0 < m → m ≤ most → (below m x).0 ≤ most
small m x most some le = omega (arith, below_range m x some)

slot_small : (x : ℕ) → (a_slot x).0 ≤ 65535
slot_small x = omega (arith, below_range 44 x (omega arith))

frame_small : (x : ℕ) → (a_frame x).0 ≤ 65535
frame_small x = omega (arith, below_range 20 x (omega arith))

tcap_small : (x : ℕ) → (a_tcap x).0 ≤ 65535
tcap_small x = omega (arith, below_range 4 x (omega arith))

-- version 1 has the words that are not of later versions
early : (v : Verb) → is_late v ≡ false → IsVerbIn 1 v
early v is late = absurd (let no : true ≡ false = sym late ∙ is in cc)

look_in : Draws_within a_look
look_in x = (early Verb.Look refl, ((below 128 x).0, omega arith, small 128 x 65535 (omega arith) (omega arith), refl))

copy_in : Draws_within a_copy
copy_in x =
    let y = (below 32 x).1 in
    let b : (a_slot y).0 ≤ 65535 = slot_small y in
    let a : (below 32 x).0 ≤ 65535 = small 32 x 65535 (omega arith) (omega arith) in
    (early Verb.Copy refl, (_, omega arith, a, (1, omega arith, omega arith, (_, omega arith, b, (both, omega arith, λ one. refl, refl)))))

remove_in : Draws_within a_remove
remove_in x = (early Verb.Remove refl, (1, omega arith, omega arith, (_, omega arith, slot_small x, refl)))

retype_in : Draws_within a_retype
retype_in x = (early Verb.Retype refl, (0, omega arith, omega arith, (_, omega arith, frame_small x, (_, refl))))

make_in : Draws_within a_make
make_in x =
    let f : (a_frame x).0 ≤ 65535 = frame_small x in
    let b : (a_slot (a_frame x).1).0 ≤ 65535 = slot_small (a_frame x).1 in (
      early Verb.Make refl,
      (Object.Leaf, (0, omega arith, omega arith, (_, omega arith, f, (1, omega arith, omega arith, (_, omega arith, b, refl))))),
    )

map_in : Draws_within a_map
map_in x =
    let y = (below 64 x).1 in
    let v : (below 64 x).0 ≤ 65535 = small 64 x 65535 (omega arith) (omega arith) in
    let f : (a_frame y).0 ≤ 65535 = frame_small y in
    let w : (below 4 (a_frame y).1).0 ≤ 3 = omega (arith, below_range 4 (a_frame y).1 (omega arith)) in (
      early Verb.Map refl,
      (2, omega arith, omega arith, (_, omega arith, v, (0, omega arith, omega arith, (_, omega arith, f, (_, omega arith, w, refl))))),
    )

unmap_in : Draws_within an_unmap
unmap_in x = (early Verb.Unmap refl, (2, omega arith, omega arith, (_, omega arith, small 64 x 65535 (omega arith) (omega arith), refl)))

touch_in : Draws_within a_touch
touch_in x = (early Verb.Touch refl, (_, omega arith, small 64 x 65535 (omega arith) (omega arith), refl))

tick_in : Draws_within a_tick
tick_in x = (early Verb.Tick refl, (_, omega arith, small 50 x 1000000 (omega arith) (omega arith), refl))

transfer_in : Draws_within a_transfer
transfer_in x =
    let y = (a_tcap x).1 in
    let m : (below 100 (a_tcap y).1).0 ≤ 4000000000 = small 100 (a_tcap y).1 4000000000 (omega arith) (omega arith) in
    (early Verb.Transfer refl, (_, omega arith, tcap_small x, (_, omega arith, tcap_small y, (_, omega arith, m, refl))))

test_in : Draws_within a_test
test_in x = (early Verb.Test refl, (_, omega arith, tcap_small x, (_, omega arith, tcap_small (a_tcap x).1, refl)))

flush_in : Draws_within (done Flush)
flush_in x = (early Verb.Flush refl, refl)

numbered_in : (n : ℕ) → Draws_within (call_numbered n)
numbered_in n =
    let draws : List (Draw Call) = a_look ∷ a_copy ∷ a_remove ∷ a_retype ∷ a_make
    ∷ a_map ∷ an_unmap ∷ a_touch ∷ a_tick ∷ a_transfer ∷ done Flush ∷ [] in
    let all : All Draws_within draws =
    All-from_recursion Draws_within draws (
      look_in,
      (copy_in, (remove_in, (retype_in, (make_in, (map_in, (unmap_in, (touch_in, (tick_in, (transfer_in, (flush_in, tt)))))))))),
    ) in
    elim (cases_lt n (length draws)) [
      | inl h ↦ All-get_or Draws_within draws n a_test h all
      | inr past ↦ subst Draws_within (sym (get_or_past draws n a_test past)) test_in
    ]

call_in : Draws_within a_call
unfolding a_call
call_in x = numbered_in (below 12 x).0 (below 12 x).1

-- what a `make` may make is in range
make_limits : (version : ℕ) (o : Object) (r f t b : ℕ) (c : Call)
    → MaySay version (object_form o λ what. Form.Says (Call.Make what r f t b)) c → InLimits c
make_limits version Object.Thread r f t b c may = let (comp, least, most, is) = may in subst InLimits is tt
make_limits version Object.Tcap r f t b c may =
    let (sched, least, most, after) = may in
    let (quality, some, best, is) = after in
    subst InLimits is (omega (arith, most), some, omega (arith, best))
make_limits version Object.Comp r f t b c may =
    let (live, least, most, is) = may.3.3 in
    subst InLimits is (omega (arith, most))
make_limits version _ r f t b c may = subst InLimits may tt

call_limits : (version : ℕ) (c : Call) → IsCallWithin version c → InLimits c
call_limits version (Copy a t b rights) h =
    let (r, few, one, is) = h.1.3.3.3 in
    subst InLimits is (omega (arith, few))
call_limits version (make_call what range frame table slot) h =
    let (o, named) = h.1 in
    make_limits version o named.0 named.3.0 named.3.3.0 named.3.3.3.0 (make_call what range frame table slot) named.3.3.3.3
call_limits version (Map p v r f w) h =
    let (flags, least, few, is) = h.1.3.3.3.3 in
    subst InLimits is (omega (arith, few))
call_limits version (Tick n) h = let (ticks, least, most, is) = h.1 in subst InLimits is most
call_limits version _ h = tt

-- ---- lists

calls_in : (x : ℕ) → All IsIn (drawn_calls x).0
unfolding drawn_calls
calls_in x = repeated_all IsIn a_call call_in 500 x

calls_length : (x : ℕ) → length (drawn_calls x).0 ≡ 500
unfolding drawn_calls
calls_length x = repeated_length a_call 500 x

first_in : All IsIn first_calls
first_in = All-from_recursion IsIn first_calls (
  (early Verb.Retype refl, (0, omega arith, omega arith, (12, omega arith, omega arith, (FrameKind.Kernel, refl)))),
  (
    (
      early Verb.Make refl,
      (
        Object.Pleaf,
        (0, omega arith, omega arith, (12, omega arith, omega arith, (1, omega arith, omega arith, (20, omega arith, omega arith, refl)))),
      ),
    ),
    ((early Verb.Grow refl, (2, omega arith, omega arith, (0, omega arith, omega arith, (20, omega arith, omega arith, refl)))), tt),
  ),
)

lists_in : (x : ℕ) → All (All IsIn) (drawn_lists x).0
lists_in x =
    let y = (drawn_calls x).1 in
    let z = (drawn_calls y).1 in
    All-from_recursion (All IsIn) (drawn_lists x).0 (
      All-append IsIn first_calls (drawn_calls x).0 first_in (calls_in x),
      (calls_in y, (calls_in z, (calls_in (drawn_calls z).1, tt))),
    )

lists_few : (x : ℕ) → All (AtMost 503) (drawn_lists x).0
lists_few x =
    let y = (drawn_calls x).1 in
    let z = (drawn_calls y).1 in
    let w = (drawn_calls z).1 in
    All-from_recursion (AtMost 503) (drawn_lists x).0 (
      omega (arith, length-append first_calls (drawn_calls x).0, calls_length x),
      (omega (arith, calls_length y), (omega (arith, calls_length z), (omega (arith, calls_length w), tt))),
    )

-- ---- the order

abbrev Is_below : Item → Type 0
Is_below i = i.core < 4

item_in : (x : ℕ) → Is_below (an_item x).0
unfolding an_item
item_in x = below_range 4 x (omega arith)

items_in : (x : ℕ) → All Is_below (drawn_items x).0
unfolding drawn_items
items_in x = repeated_all Is_below an_item item_in 6000 x

items_length : (x : ℕ) → length (drawn_items x).0 ≡ 6000
unfolding drawn_items
items_length x = repeated_length an_item 6000 x

order_in : (x : ℕ) → BelowCores 4 (first_items ++ (drawn_items x).0)
order_in x = All-append Is_below first_items (drawn_items x).0
    (All-from_recursion Is_below first_items (omega arith, (omega arith, (omega arith, tt)))) (items_in x)

-- ---- the script

grant_fits : GrantFits the_grant
grant_fits = (omega arith, omega arith, omega arith, omega arith)

setup_in : IsSetting the_setup
setup_in = record {
  some_core = omega arith;
  most_cores = omega arith;
  least_frames = omega arith;
  most_frames = omega arith;
  granted = refl;
  grants_fit = All-from_recursion GrantFits (the_setup.grants) (grant_fits, (grant_fits, (grant_fits, (grant_fits, tt))));
  most_calls = omega arith;
  some_epoch = omega arith;
  most_epochs = omega arith;
}

-- a script of these parts, from where its lists and its items are drawn
within_parts : (x y : ℕ) → IsWithin (record { version = 1; setup = the_setup; lists = (drawn_lists x).0; order = first_items ++ (drawn_items y).0 })
within_parts x y =
    let m : Meaning = record { version = 1; setup = the_setup; lists = (drawn_lists x).0; order = first_items ++ (drawn_items y).0 } in
    let lines : line_count (printed m) ≤ most_lines m = few_lines m (omega arith) (omega arith) setup_in refl (lists_in x) (order_in y) in
    let x1 = (drawn_calls x).1 in
    let x2 = (drawn_calls x1).1 in
    let x3 = (drawn_calls x2).1 in
    record {
      some_version = omega arith;
      most_versions = omega arith;
      setup = setup_in;
      limit = omega arith;
      lists = refl;
      calls = lists_in x;
      below = order_in y;
      items = omega (arith, items_length y);
      lines = omega (arith, lines, calls_length x, calls_length x1, calls_length x2, calls_length x3, items_length y);
    }

pub made_within : (n : ℕ) → IsWithin (script_made n)
unfolding script_made
made_within n = within_parts n (drawn_lists n).1

made_few : (n : ℕ) → All (AtMost 503) (script_made n).lists
unfolding script_made
made_few n = lists_few n

-- what is printed of it says it
pub made_reads : (n : ℕ) → script_of (load_text n) ≡ Ok (script_made n)
unfolding load_text
made_reads n = printed_read (script_made n) (made_within n)

pub accepted : (n : ℕ) → IsAccepted n
accepted n = record {
  within = made_within n;
  limits = λ k d h i e g. call_limits (script_made n).version _ ((made_within n).calls k d h i e g);
  few = made_few n;
  reads = made_reads n;
}
