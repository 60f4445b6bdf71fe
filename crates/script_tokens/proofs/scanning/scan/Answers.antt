use Rattle.std.proofs.Common.{◌≡◌, ◌≤◌, ◌+◌, ◌++◌, All, refl, sym, ap, subst, ◌∙◌, map, true, false, length, slice_index_or, arith}
use Rattle.script_tokens.specs.Scanning.{span_of, IsSlice, is_fault, ended, word_before, last_word, whole_after}
use Rattle.script_tokens.proofs.Steps.{turns, blank_turns, stops, told, rises, ends}
use Rattle.{std.proofs.Common.slice_get, std.proofs.lemmas.List.take-map, std.proofs.lemmas.List.Elements.All-take}
use Rattle.{script_tokens.specs.declared.scanning.Ending.TheVariants.Fault, script_tokens.specs.Words.spans_of}
use Rattle.{script_tokens.specs.Words.FewLines, script_tokens.proofs.Sizes.few_lines, script_tokens.proofs.Sizes.few_words}
use Rattle.script_tokens.proofs.scanning.scan.Goals as goal

pub returns-then-is_fault-clause-words : goal.returns-then-is_fault-clause-words
returns-then-is_fault-clause-words c =
    let bad : is_fault c.bytes.line (slice_index_or c.args.source.now c.bytes.at 0) (slice_get c.args.source.now (c.bytes.at + 1)) ≡ true =
    cc in
    let s = stops c.args.source.now c.bytes.at c.bytes.place c.bytes.line
    c.bytes.whole _ _ c.bytes.invariant.holds c.bytes-test.true refl bad in
    let same : map span_of c.truncate.new.self.items ≡ spans_of c.args.source.now = ap (map span_of) c.truncate.ensures.items
    ∙ sym (take-map span_of c.bytes.whole c.bytes.words.items) ∙ s.words in
    let texts = subst (All (IsSlice c.args.source.now)) (sym c.truncate.ensures.items)
    (All-take (IsSlice c.args.source.now) c.bytes.whole c.bytes.words.items c.bytes.invariant.texts) in
    told c.args.source.now c.truncate.new.self.items same texts

pub returns-then-is_fault-clause-ending : goal.returns-then-is_fault-clause-ending
returns-then-is_fault-clause-ending c =
    let bad : is_fault c.bytes.line (slice_index_or c.args.source.now c.bytes.at 0) (slice_get c.args.source.now (c.bytes.at + 1)) ≡ true =
    cc in
    let s = stops c.args.source.now c.bytes.at c.bytes.place c.bytes.line
    c.bytes.whole _ _ c.bytes.invariant.holds c.bytes-test.true refl bad in
    ap Fault c.fault.ensures ∙ sym s.ending

pub returns-then-is_fault-clause-ascend : goal.returns-then-is_fault-clause-ascend
returns-then-is_fault-clause-ascend c =
    let bad : is_fault c.bytes.line (slice_index_or c.args.source.now c.bytes.at 0) (slice_get c.args.source.now (c.bytes.at + 1)) ≡ true =
    cc in
    let s = stops c.args.source.now c.bytes.at c.bytes.place c.bytes.line
    c.bytes.whole _ _ c.bytes.invariant.holds c.bytes-test.true refl bad in
    rises c.args.source.now c.truncate.new.self.items
    (ap (map span_of) c.truncate.ensures.items ∙ sym (take-map span_of c.bytes.whole c.bytes.words.items) ∙ s.words)

pub bytes-preserved-then-byte-eq32 : goal.bytes-preserved-then-byte-eq32
bytes-preserved-then-byte-eq32 c =
    let source = c.args.source.now in
    let is : 32 ≡ slice_index_or source c.bytes.at 0 = cc in
    let le : c.bytes.line ≤ 20000 = omega arith in
    let new : map span_of c.end_word.new.words.items ≡ map span_of c.bytes.words.items
    ++ ended (last_word c.bytes.place) c.bytes.line c.bytes.at = c.in_ok-end_word.ensures.spans
    ∙ ap (λ o. map span_of c.bytes.words.items ++ ended o c.bytes.line c.bytes.at) c.last_word.ensures in
    rw c.after_blank-place.ensures (blank_turns source c.bytes.at c.bytes.place c.bytes.line c.bytes.whole c.bytes.words.items
    c.end_word.new.words.items c.bytes.invariant c.bytes-test.true is le new (c.in_ok-end_word.ensures.texts c.bytes.invariant.texts))

pub bytes-preserved : goal.bytes-preserved
bytes-preserved c =
    let source = c.args.source.now in
    let b = slice_index_or source c.bytes.at 0 in
    let fine : is_fault c.bytes.line b (slice_get source (c.bytes.at + 1)) ≡ false = cc in
    let place = c.place_after-place.ensures in
    let line = c.line_after-line.ensures in
    let new : map span_of c.end_word-in-bytes.new.words.items ≡ map span_of c.bytes.words.items
    ++ ended (word_before c.bytes.place b) c.bytes.line c.bytes.at = c.in_ok-end_word-2.ensures.spans
    ∙ ap (λ o. map span_of c.bytes.words.items ++ ended o c.bytes.line c.bytes.at) c.word_before.ensures in
    let whole : c.whole_after-whole.result ≡ whole_after c.bytes.whole b (length c.end_word-in-bytes.new.words.items) =
    c.whole_after-whole.ensures
    ∙ ap (whole_after c.bytes.whole b) (c.len.ensures ∙ c.end_word-in-bytes.new.words.ok.0) in
    rw (place, line, whole) (turns source c.bytes.at c.bytes.place c.bytes.line c.bytes.whole b c.bytes.words.items
    c.end_word-in-bytes.new.words.items c.bytes.invariant c.bytes-test.true refl
    fine new (c.in_ok-end_word-2.ensures.texts c.bytes.invariant.texts))

pub returns-clause-words : goal.returns-clause-words
returns-clause-words c =
    let source = c.args.source.now in
    let e = ends source c.bytes.at c.bytes.place c.bytes.line c.bytes.whole _ c.bytes.invariant.holds c.bytes-test.false in
    let here : length source ≡ c.bytes.at = omega arith in
    let new : map span_of c.end_word-2.new.words.items ≡ map span_of c.bytes.words.items
    ++ ended (last_word c.bytes.place) c.bytes.line c.bytes.at =
    c.in_ok-end_word-3.ensures.spans
    ∙ ap (λ o. map span_of c.bytes.words.items ++ ended o c.bytes.line (length source)) c.last_word-2.ensures
    ∙ ap (λ n. map span_of c.bytes.words.items ++ ended (last_word c.bytes.place) c.bytes.line n) here in
    told source c.end_word-2.new.words.items (new ∙ e.words) (c.in_ok-end_word-3.ensures.texts c.bytes.invariant.texts)

pub returns-clause-ascend : goal.returns-clause-ascend
returns-clause-ascend c =
    let source = c.args.source.now in
    let e = ends source c.bytes.at c.bytes.place c.bytes.line c.bytes.whole _ c.bytes.invariant.holds c.bytes-test.false in
    let here : length source ≡ c.bytes.at = omega arith in
    let new : map span_of c.end_word-2.new.words.items ≡ map span_of c.bytes.words.items
    ++ ended (last_word c.bytes.place) c.bytes.line c.bytes.at =
    c.in_ok-end_word-3.ensures.spans
    ∙ ap (λ o. map span_of c.bytes.words.items ++ ended o c.bytes.line (length source)) c.last_word-2.ensures
    ∙ ap (λ n. map span_of c.bytes.words.items ++ ended (last_word c.bytes.place) c.bytes.line n) here in
    rises source c.end_word-2.new.words.items (new ∙ e.words)

pub returns-then-is_fault-clause-few : goal.returns-then-is_fault-clause-few
returns-then-is_fault-clause-few c = few_words c.args.source.now c.truncate.new.self.items (returns-then-is_fault-clause-words c)

pub returns-clause-lines : goal.returns-clause-lines
returns-clause-lines c =
    let e = ends c.args.source.now c.bytes.at c.bytes.place c.bytes.line c.bytes.whole _ c.bytes.invariant.holds c.bytes-test.false in
    rw c.line_count.ensures (subst FewLines e.ending (few_lines c.args.source.now))

pub returns-clause-few : goal.returns-clause-few
returns-clause-few c = few_words c.args.source.now c.end_word-2.new.words.items (returns-clause-words c)
