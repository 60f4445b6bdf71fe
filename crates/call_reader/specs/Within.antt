-- The calls that a line may say.
use Rattle.std.specs.Prelude.{◌≡◌, ◌≤◌, ℕ, Bool, true}
use Rattle.spk_nums.specs.{Rights.both, Verbs.said, declared.kinds.FrameKind.FrameKind, declared.verbs.Verb.Verb, declared.verbs.Object.Object}
use Rattle.spk_nums.specs.{declared.calls.Call.Call}
use Rattle.call_reader.specs.CallLines.{Form, Says, Number, MayNumber, Kind, Made, form_of}
use Rattle.call_reader.specs.FirstWords.{is_late}

-- a line whose places are of this form may say the call, in a script of this version, with numbers in their ranges; in version 1 the number that
-- may be left out is
abbrev pub MaySay : ℕ → Form → Call → Type 0
MaySay version (Says d) c = d ≡ c
MaySay version (Number letter least most next) c = (n : ℕ) × (least ≤ n) × (n ≤ most) × MaySay version (next n) c
MaySay version (MayNumber letter next) c = (n : ℕ) × (n ≤ 3) × (version ≡ 1 → n ≡ both) × MaySay version (next n) c
MaySay version (Kind letter next) c = (k : FrameKind) × MaySay version (next k) c
MaySay version (Made letter next) c = (o : Object) × MaySay version (next o) c

-- scripts of this version have the word
abbrev pub IsVerbIn : ℕ → Verb → Type 0
IsVerbIn version v = is_late v ≡ true → 3 ≤ version

-- the call is one that scripts of this version have, and its arguments are in the ranges in which they are read
abbrev pub IsCallWithin : ℕ → Call → Type 0
IsCallWithin version c = IsVerbIn version (said c).verb × MaySay version (form_of (said c).verb) c
