-- The words of replies.
use Rattle.std.specs.Prelude.{◌==◌, ◌∷◌}
use Rattle.kernel_history.specs.{ℕ, Bool, true, false, List, [], codes, decimal, Capability, Kind, Value, Reply}
use Rattle.kernel_history.specs.spk_nums.specs.Names.{kind_word, reply_word}

-- the words of rights, which are none where they are both
abbrev pub rights_words : Bool → ℕ → List (List ℕ)
rights_words true rights = []
rights_words false rights = codes "rights" ∷ decimal rights ∷ []

-- the words of a capability by its kind, before those of its rights
abbrev pub cap_words_by : Kind → ℕ → ℕ → List (List ℕ) → List (List ℕ)
cap_words_by Kind.Range frame arg rights = codes "range" ∷ decimal frame ∷ decimal arg ∷ rights
cap_words_by Kind.Gate frame arg rights = codes "gate" ∷ decimal frame ∷ decimal arg ∷ rights
cap_words_by Kind.Page frame arg rights = codes "page" ∷ decimal frame ∷ decimal arg ∷ rights
cap_words_by k frame arg rights = kind_word k ∷ decimal frame ∷ rights

-- the words of a capability
abbrev pub cap_words : Capability → List (List ℕ)
cap_words c = cap_words_by c.kind c.frame c.arg (rights_words (c.rights == 3) c.rights)

-- the words of what a call answers
abbrev pub value_words : Value → List (List ℕ)
value_words Value.Nothing = []
value_words (Value.Cap c) = cap_words c
value_words (Value.Page frame flags) = decimal frame ∷ decimal flags.0 ∷ []
value_words (Value.Amount n) = decimal n ∷ []
value_words Value.Preempts = codes "preempts" ∷ []
value_words Value.Stays = codes "stays" ∷ []

-- the words after the name of a reply: what the call answers, or its number where it has one
abbrev pub words_after : Reply → List (List ℕ)
words_after (Reply.Ok v) = value_words v
words_after (Reply.Quiescing e) = decimal e ∷ []
words_after (Reply.Unflushed e) = decimal e ∷ []
words_after (Reply.Referenced k) = decimal k ∷ []
words_after (Reply.Running e) = decimal e ∷ []
words_after (Reply.Short b) = decimal b ∷ []
words_after (Reply.Busy d) = decimal d ∷ []
words_after r = []

-- the words of a reply: its name, and what comes after it
abbrev pub reply_words : Reply → List (List ℕ)
reply_words r = reply_word r ∷ words_after r
