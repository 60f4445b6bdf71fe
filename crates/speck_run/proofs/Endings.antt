-- Lists and endpoint calls that were made have the text of both histories.
use Rattle.trace_run.specs.lone_kernel.specs.kernel_history.proofs as low
use low.{◌≡◌, ℕ, zero, suc, ◌+◌, ◌<◌, ◌≤◌, ◌^◌, ◌++◌, List, [], length, map, All, refl, sym, ◌∙◌, ap, subst, arith, Option, Some}
use low.{append-nil, append_assoc, get_or as slice_index_or, IfSome, length-map, get_or-map, Setting, Call, list_of, lines_below, calls_of}
use Rattle.ends_text.specs.{done_lines, count_lines, end_lines}
use Rattle.speck_run.specs.{lines_of, core_lines}
use Rattle.trace_run.specs.lone_kernel.specs.core_invariant.specs.{reply_lines, decisions_by}
use Rattle.async_ends.specs.{declared.asks.EndAsk.EndAsk, declared.asks.EndDone.EndDone, Events.taken_at}
use Rattle.ends_run.specs.{declared.whole.EndsRan.EndsRan, Whole.AreEnded, Whole.FewCalls, Whole.FewAsks}
use Rattle.{std.specs.Global.Vec, load_maker.specs.script_reader.specs.Readings.AtMost}
use Rattle.{explain_run.specs.ends_reader.specs.Inputs.FewAsks as FewOfInput}
use Rattle.{ends_text.proofs.Counted.counted, speck_run.specs.Ends.EndsText, speck_run.proofs.ByCores.lines_by_cores}

-- lines that are the same below n
lines_same : (a b : ℕ → List ℕ) (n : ℕ) → ((c : ℕ) → c < n → a c ≡ b c) → lines_below a n ≡ lines_below b n
unfolding lines_below
lines_same a b zero h = refl
lines_same a b (suc n) h = λ i. lines_same a b n (λ c lt. h c (omega arith)) i ++ h n (omega arith) i

-- the lines of no core, and of one core more
pub core_none : (done : List (List EndDone)) (text : List ℕ) → text ≡ text ++ core_lines done 0
unfolding lines_below
core_none done text = sym (append-nil text)

pub core_more : (done : List (List EndDone)) (n : ℕ) (start text text' : List ℕ) → text ≡ start ++ core_lines done n
    → text' ≡ text ++ done_lines n 1 (slice_index_or done n []) → text' ≡ start ++ core_lines done (n + 1)
unfolding lines_below
core_more done n start text text' so_far more =
    let next : n + 1 ≡ suc n = omega arith in
    let own : List ℕ = done_lines n 1 (slice_index_or done n []) in
    more ∙ ap (λ (z : List ℕ). z ++ own) so_far ∙ append_assoc start (core_lines done n) own
    ∙ ap (λ (k : ℕ). start ++ core_lines done k) (sym next)

-- what was made of lists and endpoint calls is what was made of these
pub ended_of : (setup : Setting) (lists lists' : List (Vec Call)) (asks asks' : List (Vec EndAsk)) (o : Option EndsRan) (ran : EndsRan)
    → lists ≡ lists' → asks ≡ asks' → o ≡ Some ran → IfSome o (AreEnded setup (map (λ v. v.items) lists) (map (λ v. v.items) asks))
    → AreEnded setup (map (λ v. v.items) lists') (map (λ v. v.items) asks') ran
ended_of setup lists lists' asks asks' o ran l a is made =
    subst (λ (z : List (Vec Call) × List (Vec EndAsk)). AreEnded setup (map (λ v. v.items) z.0) (map (λ v. v.items) z.1) ran)
    (λ i. (l i, a i))
    (subst (λ (x : Option EndsRan). IfSome x (AreEnded setup (map (λ v. v.items) lists) (map (λ v. v.items) asks))) is made)

pub ended_text : (setup : Setting) (lists : List (List Call)) (asks : List (List EndAsk)) (ran : EndsRan) (text : List ℕ)
    (e : AreEnded setup lists asks ran)
    → text ≡ (lines_of lists ran.decisions.items ++ core_lines (map (λ v. v.items) ran.done.items) (length ran.done.items))
    ++ count_lines ran.sent.items ran.left.items (length ran.sent.items)
    → EndsText setup lists asks text
ended_text setup lists asks ran text e is =
    let h = e.ends in
    let same : list_of lists ≡ calls_of h.first = λ i c. sym (h.calls c).finished i in
    let replies : lines_of lists ran.decisions.items
    ≡ lines_below (λ c. reply_lines (calls_of h.first) (decisions_by h.first c)) setup.cores =
    ap (lines_of lists) e.decisions ∙ lines_by_cores lists h.first same setup.cores in
    let done : core_lines (map (λ v. v.items) ran.done.items) (length ran.done.items)
    ≡ lines_below (λ c. done_lines c 1 (h.made c).done) setup.cores =
    ap (core_lines (map (λ v. v.items) ran.done.items)) e.count
    ∙ lines_same (λ c. done_lines c 1 (slice_index_or (map (λ v. v.items) ran.done.items) c [])) (λ c. done_lines c 1 (h.made c).done)
    setup.cores
    (λ c lt. ap (done_lines c 1) (e.done c lt)) in
    let ends : count_lines ran.sent.items ran.left.items (length ran.sent.items) ≡ end_lines h.events 512 =
    ap (count_lines ran.sent.items ran.left.items) e.sent_count
    ∙ counted h.events ran.sent.items ran.left.items 512 e.sent e.left (λ f. ap (λ n. n + taken_at h.events f) (e.left f) ∙ h.balance f) in
    record {
      ends = h;
      is_text = is ∙ (λ i. (replies i ++ done i) ++ ends i)
          ∙ append_assoc (lines_below (λ c. reply_lines (calls_of h.first) (decisions_by h.first c)) setup.cores)
          (lines_below (λ c. done_lines c 1 (h.made c).done) setup.cores) (end_lines h.events 512);
    }

-- lists of at most so many calls are short enough for endpoint calls after them
pub few_calls : (n : ℕ) (lists : List (Vec Call)) → All (AtMost n) (map (λ v. v.items) lists) → n ≤ 4194304 → All FewCalls lists
few_calls n lists most small k d h =
    let size = length-map lists (λ (v : Vec Call). v.items) in
    let few = most k [] (omega arith) in
    let read = ap length (get_or-map (λ (v : Vec Call). v.items) lists k d [] h) in
    omega arith

pub few_asks : (n : ℕ) (asks : List (Vec EndAsk)) → All (FewOfInput n) (map (λ v. v.items) asks) → n ≤ 4194304 → All FewAsks asks
few_asks n asks most small k d h =
    let size = length-map asks (λ (v : Vec EndAsk). v.items) in
    let few = most k [] (omega arith) in
    let read = ap length (get_or-map (λ (v : Vec EndAsk). v.items) asks k d [] h) in
    omega arith

-- no core has made 2^32 endpoint calls
pub few_each : (setup : Setting) (lists : List (List Call)) (asks : List (List EndAsk)) (ran : EndsRan) → AreEnded setup lists asks ran
    → All (λ v. length v.items < 2 ^ 32) ran.done.items
few_each setup lists asks ran e k d h =
    let few = e.few k in
    let read = ap length (get_or-map (λ (v : Vec EndDone). v.items) ran.done.items k d [] h) in
    omega arith
