-- The steps of the question whether a component lives, of a claim, a push and a pop stay on the words of the machine, whatever words are
-- found.
use Rattle.stage_thread.specs as low
use Rattle.std.proofs.Common.{◌≡◌, ℕ, ◌==◌, ◌<◌, Bool, true, false, Option, Some, None, refl, arith}
use low.{AliveFits, comp_after, alive_after, ClaimFits, thread_after, compared_after, claim_after, PushFits, push_move, PopFits, pop_move}
use low.{declared.alive.Alive.Alive, Claiming.claim_move, Stacking.push_after, Stacking.pop_after, declared.claim.Claim.Claim}
use low.{declared.claim.Claim.TheVariants.AtLoad, declared.claim.Claim.TheVariants.AtCompare, declared.claim.Claim.TheVariants.AtStack}
use Rattle.{word_map.specs.Shape, word_map.specs.IsIn, word_map.specs.word_of, tcap_words.specs.DepthFits, tcap_words.specs.word_of_thread}
use Rattle.{tcap_words.specs.thread_of_word, frame_words.specs.Comp.comp_of_word, frame_words.specs.declared.comp_word.CompWord.CompWord}
use Rattle.{tcap_words.specs.declared.thread_word.ThreadWord.ThreadWord}
use low.{declared.stack.Push.Push, declared.stack.Pop.Pop}
use Rattle.frame_words.proofs.CompLemmas as comps
use Rattle.tcap_words.proofs.ThreadLemmas as words

comp_after_fits : (s : Shape) (comp found : ℕ) (o : Option CompWord) → comp_of_word found ≡ o → comp < s.frames
    → AliveFits s (comp_after comp o)
comp_after_fits s comp found None is h = h
comp_after_fits s comp found (Some life) is h = (comps.spelling.spells found life is).0

-- what is asked whether a component lives stays of the machine
pub alive_after_fits : (s : Shape) (a : Alive) (found : ℕ) → AliveFits s a → AliveFits s (alive_after a found)
alive_after_fits s (Alive.AtComp comp) found h = comp_after_fits s comp found (comp_of_word found) refl h
alive_after_fits s (Alive.AtLive life) found h = h

-- the next step of a claim is on a word of the machine
pub claim_is_in : (s : Shape) (c : Claim) → ClaimFits s c → IsIn s (word_of (claim_move c))
claim_is_in s (AtLoad t core) h = (h, omega arith)
claim_is_in s (AtCompare t core depth) h = (h.0, omega arith)
claim_is_in s (AtStack t depth) h = (h.0, omega (arith, h.1.1))

thread_after_fits : (s : Shape) (t core found : ℕ) (o : Option ThreadWord)
    → thread_of_word found ≡ o → t < s.frames → ClaimFits s (thread_after t core o)
thread_after_fits s t core found None is h = h
thread_after_fits s t core found (Some (ThreadWord.Idle depth)) is h = (h, (words.spelling.spells found (ThreadWord.Idle depth) is).0)
thread_after_fits s t core found (Some (ThreadWord.Running c depth)) is h = h
thread_after_fits s t core found (Some (ThreadWord.Claimed c depth)) is h = h

compared_fits : (s : Shape) (same : Bool) (t core depth : ℕ)
    → (t < s.frames) × DepthFits depth → ClaimFits s (compared_after same t core depth)
compared_fits s true t core depth h = h
compared_fits s false t core depth h = h

-- and it stays so
pub claim_after_fits : (s : Shape) (c : Claim) (found : ℕ) → ClaimFits s c → ClaimFits s (claim_after c found)
claim_after_fits s (AtLoad t core) found h = thread_after_fits s t core found (thread_of_word found) refl h
claim_after_fits s (AtCompare t core depth) found h = compared_fits s (found == word_of_thread (ThreadWord.Idle depth)) t core depth h
claim_after_fits s (AtStack t depth) found h = h

-- the next step of a push is on a word of the machine
pub push_is_in : (s : Shape) (p : Push) → PushFits s p → IsIn s (word_of (push_move p))
push_is_in s (Push.AtStack t core depth comp) h = (h.0, omega (arith, h.2))
push_is_in s (Push.AtThread t core depth) h = (h.0, omega arith)

pub push_after_fits : (s : Shape) (p : Push) → PushFits s p → PushFits s (push_after p)
push_after_fits s (Push.AtStack t core depth comp) h = h
push_after_fits s (Push.AtThread t core depth) h = h

-- the next step of a pop is on a word of the machine
pub pop_is_in : (s : Shape) (p : Pop) → PopFits s p → IsIn s (word_of (pop_move p))
pop_is_in s (Pop.AtThread t core depth) h = (h.0, omega arith)
pop_is_in s (Pop.AtStack t depth) h = (h.0, omega (arith, h.2))

pub pop_after_fits : (s : Shape) (p : Pop) → PopFits s p → PopFits s (pop_after p)
pop_after_fits s (Pop.AtThread t core depth) h = h
pop_after_fits s (Pop.AtStack t depth) h = h
