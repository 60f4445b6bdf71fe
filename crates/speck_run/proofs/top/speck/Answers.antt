use Rattle.std.proofs.Common.{◌≡◌, ◌∙◌, sym, subst, inl, inr}
use Rattle.speck_run.specs.{declared.top.Status.TheVariants.Stopped, Script.UsesThreads, Top.Asked, Top.Answers, Top.Writes}
use Rattle.speck_run.proofs.Due.{answers_due, answers_fault, asks_same, carries, completes, done_asked, load_due, stops_run, summary_due}
use Rattle.speck_run.proofs.Due.{words_due, writes_due}
use Rattle.{byte_ends.specs.Ends.Adds, speck_run.specs.declared.words.Command.Command}
use Rattle.speck_run.proofs.top.speck.Goals as goal

pub returns-in-Ok-clause-replay : goal.returns-in-Ok-clause-replay
returns-in-Ok-clause-replay g c asks done =
    carries c.args.words.now Command.Replay asks (g.S.Source.left c.args.source.now) _ _ _ c.in-Ok.answer.status _
    _ _ (g.K.Sink.held c.args.sink.now) _ c.finish.result c.in-Ok.ensures.due c.finish.ensures done

pub returns-in-Ok-clause-trace : goal.returns-in-Ok-clause-trace
returns-in-Ok-clause-trace g c asks done =
    carries c.args.words.now Command.Trace asks (g.S.Source.left c.args.source.now) _ _ _ c.in-Ok.answer.status _
    _ _ (g.K.Sink.held c.args.sink.now) _ c.finish.result c.in-Ok.ensures.due c.finish.ensures done

pub returns-in-Ok-clause-draw : goal.returns-in-Ok-clause-draw
returns-in-Ok-clause-draw g c page asks done =
    carries c.args.words.now (Command.Draw page) asks (g.S.Source.left c.args.source.now) _ _ _ c.in-Ok.answer.status _
    _ _ (g.K.Sink.held c.args.sink.now) _ c.finish.result c.in-Ok.ensures.due c.finish.ensures done

pub returns-in-Ok-clause-run : goal.returns-in-Ok-clause-run
returns-in-Ok-clause-run g c asks done =
    carries c.args.words.now Command.Run asks (g.S.Source.left c.args.source.now) _ _ _ c.in-Ok.answer.status _
    _ _ (g.K.Sink.held c.args.sink.now) _ c.finish.result c.in-Ok.ensures.due c.finish.ensures done

pub returns-in-Ok-clause-stopped : goal.returns-in-Ok-clause-stopped
returns-in-Ok-clause-stopped g c stopped =
    let asked : Asked = record {
      words = c.args.words.now;
      left = g.S.Source.left c.args.source.now;
      left' = g.S.Source.left c.judge.new.source;
      faults = g.S.Source.faults c.args.source.now;
      faults' = g.S.Source.faults c.judge.new.source;
    } in
    elim c.finish.ensures [
      | inl p ↦ (stops_run asked c.in-Ok.answer.status _ c.in-Ok.ensures.due (sym p.0 ∙ stopped), c.in-Ok.ensures.free (sym p.0 ∙ stopped))
      | inr p ↦ let wrong = sym p.0 ∙ stopped in cc
    ]

pub returns-in-Ok-clause-plain : goal.returns-in-Ok-clause-plain
returns-in-Ok-clause-plain g c asks done =
    carries c.args.words.now Command.Plain asks (g.S.Source.left c.args.source.now) _ _ _ c.in-Ok.answer.status _
    _ _ (g.K.Sink.held c.args.sink.now) _ c.finish.result c.in-Ok.ensures.due c.finish.ensures done

pub returns-in-Ok-clause-print : goal.returns-in-Ok-clause-print
returns-in-Ok-clause-print g c asks done =
    carries c.args.words.now Command.Print asks (g.S.Source.left c.args.source.now) _ _ _ c.in-Ok.answer.status _
    _ _ (g.K.Sink.held c.args.sink.now) _ c.finish.result c.in-Ok.ensures.due c.finish.ensures done

pub returns-in-Ok-clause-ends : goal.returns-in-Ok-clause-ends
returns-in-Ok-clause-ends g c asks done =
    carries c.args.words.now Command.Ends asks (g.S.Source.left c.args.source.now) _ _ _ c.in-Ok.answer.status _
    _ _ (g.K.Sink.held c.args.sink.now) _ c.finish.result c.in-Ok.ensures.due c.finish.ensures done

pub returns-in-Ok-clause-sched : goal.returns-in-Ok-clause-sched
returns-in-Ok-clause-sched g c asks done =
    carries c.args.words.now Command.Sched asks (g.S.Source.left c.args.source.now) _ _ _ c.in-Ok.answer.status _
    _ _ (g.K.Sink.held c.args.sink.now) _ c.finish.result c.in-Ok.ensures.due c.finish.ensures done

pub returns-in-Ok-clause-check : goal.returns-in-Ok-clause-check
returns-in-Ok-clause-check g c asks done =
    carries c.args.words.now Command.Check asks (g.S.Source.left c.args.source.now) _ _ _ c.in-Ok.answer.status _
    _ _ (g.K.Sink.held c.args.sink.now) _ c.finish.result c.in-Ok.ensures.due c.finish.ensures done

pub returns-in-Ok-clause-origins : goal.returns-in-Ok-clause-origins
returns-in-Ok-clause-origins g c asks done =
    carries c.args.words.now Command.Origins asks (g.S.Source.left c.args.source.now) _ _ _ c.in-Ok.answer.status _
    _ _ (g.K.Sink.held c.args.sink.now) _ c.finish.result c.in-Ok.ensures.due c.finish.ensures done

pub returns-in-Ok-clause-worlds : goal.returns-in-Ok-clause-worlds
returns-in-Ok-clause-worlds g c asks done =
    carries c.args.words.now Command.Worlds asks (g.S.Source.left c.args.source.now) _ _ _ c.in-Ok.answer.status _
    _ _ (g.K.Sink.held c.args.sink.now) _ c.finish.result c.in-Ok.ensures.due c.finish.ensures done

pub returns-in-Ok-clause-explain : goal.returns-in-Ok-clause-explain
returns-in-Ok-clause-explain g c reading asks done =
    carries c.args.words.now (Command.Explain reading) asks (g.S.Source.left c.args.source.now) _ _ _ c.in-Ok.answer.status _
    _ _ (g.K.Sink.held c.args.sink.now) _ c.finish.result c.in-Ok.ensures.due c.finish.ensures done

pub returns-in-Ok-clause-make : goal.returns-in-Ok-clause-make
returns-in-Ok-clause-make g c number asks done =
    let held = g.K.Sink.held c.args.sink.now in
    let held' = g.K.Sink.held c.finish.new.sink in
    elim c.finish.ensures [
      | inl p ↦ subst (λ text. Adds text held held') (load_due c.args.words.now number asks
          (g.S.Source.left c.args.source.now) _ _ _ c.in-Ok.answer.status _ c.in-Ok.ensures.due).1 p.2
      | inr p ↦ let wrong = sym p.0 ∙ done in cc
    ]

pub returns-in-Ok-clause-made : goal.returns-in-Ok-clause-made
returns-in-Ok-clause-made g c number asks =
    elim c.finish.ensures [
      | inl p ↦ inl (p.0 ∙ (load_due c.args.words.now number asks
          (g.S.Source.left c.args.source.now) _ _ _ c.in-Ok.answer.status _ c.in-Ok.ensures.due).0)
      | inr p ↦ inr (inl p.0)
    ]

pub returns-in-Ok-clause-load : goal.returns-in-Ok-clause-load
returns-in-Ok-clause-load g c number asks done =
    elim c.finish.ensures [
      | inl p ↦ record {
        text = _;
        is_text = (summary_due c.args.words.now number asks (g.S.Source.left c.args.source.now)
            _ _ _ c.in-Ok.answer.status _ c.in-Ok.ensures.due).1;
        written = p.2;
      }
      | inr p ↦ let wrong = sym p.0 ∙ done in cc
    ]

pub returns-in-Ok-clause-loaded : goal.returns-in-Ok-clause-loaded
returns-in-Ok-clause-loaded g c number asks =
    elim c.finish.ensures [
      | inl p ↦ inl (p.0 ∙ (summary_due c.args.words.now number asks
          (g.S.Source.left c.args.source.now) _ _ _ c.in-Ok.answer.status _ c.in-Ok.ensures.due).0)
      | inr p ↦ inr (inl p.0)
    ]

pub returns-in-Ok-clause-answers : goal.returns-in-Ok-clause-answers
returns-in-Ok-clause-answers g c command asks =
    let left = g.S.Source.left c.args.source.now in
    elim c.finish.ensures [
      | inl p ↦ subst (Answers command left) (sym p.0)
          (answers_due c.args.words.now command asks left _ _ _ c.in-Ok.answer.status _ c.in-Ok.ensures.due)
      | inr p ↦ answers_fault command left c.finish.result (inl p.0)
    ]

pub returns-in-Ok-clause-complete : goal.returns-in-Ok-clause-complete
returns-in-Ok-clause-complete g c command asks accepted gate sure_source sure_sink =
    let asked : Asked = record {
      words = c.args.words.now;
      left = g.S.Source.left c.args.source.now;
      left' = g.S.Source.left c.judge.new.source;
      faults = g.S.Source.faults c.args.source.now;
      faults' = g.S.Source.faults c.judge.new.source;
    } in
    let goes : c.in-Ok.answer.status ≡ Stopped → ⊥ = λ stopped.
    let run = stops_run asked c.in-Ok.answer.status _ c.in-Ok.ensures.due stopped in
    c.in-Ok.ensures.free stopped (gate (subst UsesThreads (asks_same c.args.words.now run.command command run.asks asks) run.threads)) in
    elim c.finish.ensures [
      | inl p ↦ inl (p.0 ∙ completes c.args.words.now command asks (g.S.Source.left c.args.source.now)
          _ _ _ c.in-Ok.answer.status _ c.in-Ok.ensures.due accepted goes sure_source)
      | inr p ↦ absurd (sure_sink p.1)
    ]

pub returns-in-Ok-clause-writes : goal.returns-in-Ok-clause-writes
returns-in-Ok-clause-writes g c =
    let asked : Asked = record {
      words = c.args.words.now;
      left = g.S.Source.left c.args.source.now;
      left' = g.S.Source.left c.judge.new.source;
      faults = g.S.Source.faults c.args.source.now;
      faults' = g.S.Source.faults c.judge.new.source;
    } in
    let held = g.K.Sink.held c.args.sink.now in
    let held' = g.K.Sink.held c.finish.new.sink in
    elim c.finish.ensures [
      | inl p ↦ subst (Writes asked held held') (sym p.0) (writes_due asked held held' c.in-Ok.answer.status _ c.in-Ok.ensures.due p.2)
      | inr p ↦ subst (Writes asked held held') (sym p.0)
          (record { status = c.in-Ok.answer.status; text = _; due = c.in-Ok.ensures.due; front = p.2 })
    ]

pub returns-in-Ok-clause-done : goal.returns-in-Ok-clause-done
returns-in-Ok-clause-done g c done =
    let asked : Asked = record {
      words = c.args.words.now;
      left = g.S.Source.left c.args.source.now;
      left' = g.S.Source.left c.judge.new.source;
      faults = g.S.Source.faults c.args.source.now;
      faults' = g.S.Source.faults c.judge.new.source;
    } in
    elim c.finish.ensures [
      | inl p ↦ done_asked asked c.in-Ok.answer.status _ c.in-Ok.ensures.due (sym p.0 ∙ done)
      | inr p ↦ let wrong = sym p.0 ∙ done in cc
    ]

pub returns-in-Ok-clause-other_words : goal.returns-in-Ok-clause-other_words
returns-in-Ok-clause-other_words g c other =
    let asked : Asked = record {
      words = c.args.words.now;
      left = g.S.Source.left c.args.source.now;
      left' = g.S.Source.left c.judge.new.source;
      faults = g.S.Source.faults c.args.source.now;
      faults' = g.S.Source.faults c.judge.new.source;
    } in
    elim c.finish.ensures [
      | inl p ↦ inl (p.0 ∙ words_due asked c.in-Ok.answer.status _ c.in-Ok.ensures.due other)
      | inr p ↦ inr (inl p.0)
    ]
