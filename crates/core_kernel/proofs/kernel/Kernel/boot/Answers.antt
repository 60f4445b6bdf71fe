use Rattle.std.proofs.Common.{◌<◌, ◌∙◌, sym, subst}
use Rattle.core_kernel.proofs.Closing.{some_word, few_words, programs_fit, is_booted, fresh_seats, all_wrapped, fresh_wrapped}
use Rattle.core_kernel.proofs.kernel.Kernel.boot.Goals as goal

pub new-requires-clause-words : goal.new-requires-clause-words
new-requires-clause-words c = subst (λ n. 0 < n) (sym (c.in_ok-words.words.ok.0 ∙ c.in_ok-words.ensures.length))
    (some_word c.args.setup.now c.programs_of.ensures.setting)

pub new-requires-clause-few : goal.new-requires-clause-few
new-requires-clause-few c = subst (λ n. n < 4294967296) (sym (c.in_ok-words.words.ok.0 ∙ c.in_ok-words.ensures.length))
    (few_words c.args.setup.now c.programs_of.ensures.setting)

pub new-requires-clause-sizes : goal.new-requires-clause-sizes
new-requires-clause-sizes c k d h =
    programs_fit c.args.setup.now c.in_ok-programs.programs.items c.in_ok-words.words.items c.in_ok-programs.ensures.programs
    c.in_ok-words.ensures.length k d h ∙ sym c.in_ok-words.words.ok.0

pub invariant_of-kernel : goal.invariant_of-kernel
invariant_of-kernel c =
    let t = c.in_ok-table.ensures in
    let w = c.in_ok-words.ensures in
    is_booted c.args.setup.now c.in_ok-table.table c.in_ok-words.words.items c.in_ok-programs.programs.items c.programs_of.ensures.setting
    t.words t.programs w.length w.words c.in_ok-programs.ensures.programs

pub seats_of-requires : goal.seats_of-requires
seats_of-requires c =
    let t = c.in_ok-table.ensures in
    let w = c.in_ok-words.ensures in
    let booted = is_booted c.args.setup.now c.in_ok-table.table c.in_ok-words.words.items c.in_ok-programs.programs.items
    c.programs_of.ensures.setting t.words t.programs w.length w.words c.in_ok-programs.ensures.programs in
    fresh_seats c.args.setup.now c.in_ok-table.table c.in_ok-table.turn_seats.items booted t.seats t.fresh

pub returns-clause-seats : goal.returns-clause-seats
returns-clause-seats c =
    let t = c.in_ok-table.ensures in
    let w = c.in_ok-words.ensures in
    let booted = is_booted c.args.setup.now c.in_ok-table.table c.in_ok-words.words.items c.in_ok-programs.programs.items
    c.programs_of.ensures.setting t.words t.programs w.length w.words c.in_ok-programs.ensures.programs in
    all_wrapped c.args.setup.now c.in_ok-table.table booted c.in_ok-table.turn_seats.items c.in_ok-seats.seats.items c.in_ok-seats.ensures
    t.seats

pub returns-clause-fresh : goal.returns-clause-fresh
returns-clause-fresh c =
    let t = c.in_ok-table.ensures in
    let w = c.in_ok-words.ensures in
    let booted = is_booted c.args.setup.now c.in_ok-table.table c.in_ok-words.words.items c.in_ok-programs.programs.items
    c.programs_of.ensures.setting t.words t.programs w.length w.words c.in_ok-programs.ensures.programs in
    fresh_wrapped c.args.setup.now c.in_ok-table.table booted c.in_ok-table.turn_seats.items c.in_ok-seats.seats.items
    c.in_ok-seats.ensures t.fresh
