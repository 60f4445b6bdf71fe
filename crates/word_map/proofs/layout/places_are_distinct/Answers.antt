use Rattle.word_map.proofs.PlaceLemmas.{has_places}
use Rattle.word_map.proofs.layout.places_are_distinct.Goals as goal

pub returns : goal.returns
returns c = has_places
