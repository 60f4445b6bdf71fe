-- Which replies are read back from their texts, that they are, and that legal traces decide no others.
use Rattle.std.specs.Prelude.{◌≡◌, ◌≤◌, ◌∷◌}
use Rattle.kernel_history.specs.{ℕ, [], All, Ok, Setting, IsSetting, reply_text, Reply, Decision, decisions_of, IsLegal}
use Rattle.{reply_reads.specs.Words.reply_words, kernel_history.specs.spk_nums.specs.Texts.spaced}
use Rattle.{kernel_history.specs.Trace.Trace, reply_ranges.specs.Ranges.ReplyFits, script_printer.specs.script_tokens.specs.Words.words_of}
use Rattle.{script_printer.specs.line_reader.specs.Lines.rows_of, script_printer.specs.Printing.line, history_reader.specs.Replies.reply_of}

-- A reply is in the ranges in which it is read on a machine of so many cores: those in which the replies of runs are.
abbrev pub IsReplyWithin : ℕ → Reply → Type 0
IsReplyWithin cores r = ReplyFits cores r

-- The text of a reply is its words, with a space between each two; a line of it has these words and no others; and they are read, on a
-- machine of so many cores, as the reply.
pub record ReplyReads (cores : ℕ) (r : Reply) : Type 0 where
  pub text : reply_text r ≡ spaced (reply_words r)
  pub row : rows_of (words_of (line (reply_text r))) ≡ record { number = 1; words = reply_words r } ∷ []
  pub read : reply_of cores (reply_words r) ≡ Ok r

-- Each reply in the ranges reads back.
abbrev pub RepliesReadBack : Type 0
RepliesReadBack = (cores : ℕ) → cores ≤ 8 → (r : Reply) → IsReplyWithin cores r → ReplyReads cores r

-- Each reply that a legal trace decides is in the ranges in which replies are read on its machine.
abbrev pub LegalReplies : Type 0
LegalReplies = (setup : Setting) → IsSetting setup → (t : Trace) → IsLegal setup t
    → All (λ (d : Decision). IsReplyWithin setup.cores d.reply) (decisions_of t)
