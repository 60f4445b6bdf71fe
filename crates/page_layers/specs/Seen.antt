-- What a picture shows of a step.
use Rattle.word_texts.specs.step_views.specs.kernel_history.specs.{ℕ, Option, place_in, Call, Reply, Word, Shape, place_of, word_of}
use Rattle.word_texts.specs.step_views.specs.kernel_history.specs.{left_of, Step}
use Rattle.word_texts.specs.step_views.specs.{Names.named, declared.views.StepMade.StepMade}

-- Its core; its word, by its place and its name; what it finds there and leaves; and its events.
pub record Seen : Type 0 where
  pub core : ℕ
  pub place : ℕ
  pub word : Word
  pub found : ℕ
  pub left : ℕ
  pub enters : Option Call
  pub decides : Option Reply
  pub returns : Option Reply

-- Of a step of a trace, in a machine of this shape.
abbrev pub seen : Shape → Step → Seen
seen shape e = record {
  core = e.core;
  place = place_of shape (word_of e.move);
  word = word_of e.move;
  found = e.found;
  left = left_of e.move e.found;
  enters = e.enters;
  decides = e.decides;
  returns = e.returns;
}

-- Of a step that was made.
abbrev pub seen_made : StepMade → Seen
seen_made made = record {
  core = made.view.core;
  place = place_in made.view.op;
  word = named made.view.word;
  found = made.view.found;
  left = made.view.left;
  enters = made.view.enters;
  decides = made.decides;
  returns = made.returns;
}
