-- What comes before the calls, and where each line may stand.
use Rattle.std.specs.Prelude.{◌≡◌, ◌<◌, ◌≤◌, ◌^◌, ◌-◌, All, ℕ, List, [], ◌∷◌, ◌++◌, Bool, true, false, Result, Ok, Err, length, slice_get}
use Rattle.std.specs.Prelude.{◌+◌, ◌*◌, ◌==◌, if◌then◌else◌, ok_or, option_and_then}
use Rattle.line_reader.specs.{◌>>=◌, number_at, core_at, end_at}
use Rattle.call_reader.specs.{first_word, call_line, most_calls}
use Rattle.spk_nums.specs.{declared.grants.Grant.Grant, CallLimits.InLimits, Setting.GrantFits}
use Rattle.line_reader.specs.{declared.cause.Cause.Cause, declared.cause.Cause.TheVariants.S2, declared.cause.Cause.TheVariants.S7}
use Rattle.call_reader.specs.declared.first_words.FirstWord.{FirstWord}
use Rattle.script_reader.specs.{declared.head.Section.Section, declared.head.Head.Head, declared.head.Line.Line}

-- what may stand next: the head's lines in turn; then `calls`, `epochs` and `core`, each only before what is later;
-- after a `core` line also calls; no other line than `order` begins the order of steps
abbrev pub may_stand : Section → FirstWord → Bool
may_stand Section.Version FirstWord.Speck = true
may_stand Section.Cores FirstWord.Cores = true
may_stand Section.Frames FirstWord.Frames = true
may_stand Section.Grants FirstWord.Grant = true
may_stand Section.Calls FirstWord.Calls = true
may_stand Section.Calls FirstWord.Epochs = true
may_stand Section.Calls FirstWord.Core = true
may_stand Section.Calls FirstWord.Order = true
may_stand Section.Epochs FirstWord.Epochs = true
may_stand Section.Epochs FirstWord.Core = true
may_stand Section.Epochs FirstWord.Order = true
may_stand Section.Lists FirstWord.Core = true
may_stand Section.Lists FirstWord.Order = true
may_stand Section.List FirstWord.Core = true
may_stand Section.List FirstWord.Order = true
may_stand Section.List (FirstWord.Call verb) = true
may_stand _ _ = false

-- `speck V`: the version
unfoldable pub speck_line : Head → List (List ℕ) → Result Head Cause
speck_line head words = do
  n ← number_at words 1 1 3
  done ← end_at words 2
  Ok (record head { section = Section.Cores; version = n; calls = most_calls n })

-- `cores n`
unfoldable pub cores_line : Head → List (List ℕ) → Result Head Cause
cores_line head words = do
  n ← number_at words 1 1 8
  done ← end_at words 2
  Ok (record head { section = Section.Frames; cores = n })

-- `frames F`
unfoldable pub frames_line : Head → List (List ℕ) → Result Head Cause
frames_line head words = do
  n ← number_at words 1 (4 + 2 * head.cores) 512
  done ← end_at words 2
  Ok (record head { section = Section.Grants; frames = n })

-- after the grant of the last core come the limits
abbrev pub granted : Head → Grant → Head
granted head grant =
    record head {
      section = (if length head.grants + 1 == head.cores then Section.Calls else Section.Grants);
      grants = head.grants ++ grant ∷ [];
    }

-- `grant B S W`: what the next core is granted
unfoldable pub grant_line : Head → List (List ℕ) → Result Head Cause
grant_line head words = do
  b ← number_at words 1 0 500000000
  s ← number_at words 2 0 63
  w ← number_at words 3 1 16777215
  done ← end_at words 4
  Ok (granted head (record { budget = b; sched = s; quality = w }))

-- `calls N`
unfoldable pub calls_line : Head → List (List ℕ) → Result Head Cause
calls_line head words = do
  n ← number_at words 1 0 (most_calls head.version)
  done ← end_at words 2
  Ok (record head { section = Section.Epochs; calls = n })

-- `epochs N`
unfoldable pub epochs_line : Head → List (List ℕ) → Result Head Cause
epochs_line head words = do
  n ← number_at words 1 1 65535
  done ← end_at words 2
  Ok (record head { section = Section.Lists; epochs = n })

-- `core c`: the calls that follow are that core's
unfoldable pub core_line : Head → List (List ℕ) → Result Head Cause
core_line head words = do
  c ← core_at words 1 head.cores
  done ← end_at words 2
  Ok (record head { section = Section.List; core = c })

-- `order`
unfoldable pub order_line : Head → List (List ℕ) → Result Head Cause
order_line head words = do
  done ← end_at words 1
  Ok (record head { section = Section.Order })

abbrev pub goes_on : Result Head Cause → Result Line Cause
goes_on read = read >>= λ head. Ok (Line.Head head)

-- the line of a first word that may stand there
unfoldable pub line_by : Head → List (List ℕ) → FirstWord → Result Line Cause
line_by head words FirstWord.Speck = goes_on (speck_line head words)
line_by head words FirstWord.Cores = goes_on (cores_line head words)
line_by head words FirstWord.Frames = goes_on (frames_line head words)
line_by head words FirstWord.Grant = goes_on (grant_line head words)
line_by head words FirstWord.Calls = goes_on (calls_line head words)
line_by head words FirstWord.Epochs = goes_on (epochs_line head words)
line_by head words FirstWord.Core = goes_on (core_line head words)
line_by head words FirstWord.Order = goes_on (order_line head words)
line_by head words (FirstWord.Call verb) = call_line head.version words verb >>= λ call. Ok (Line.Call call)

-- a line before the order of steps: its first word is judged for S2, then S7, and then its arguments
unfoldable pub line_of : Head → List (List ℕ) → Result Line Cause
line_of head words = do
  word ← ok_or (option_and_then (first_word head.version) (slice_get words 0)) S2
  if may_stand head.section word then line_by head words word else Err S7

-- the setup before the first line
abbrev pub no_head : Head
no_head = record {
  section = Section.Version;
  version = 1;
  cores = 1;
  frames = 6;
  grants = [];
  calls = 4194304;
  epochs = 65535;
  core = 0;
}

-- the head is whole: its last grant was read
abbrev pub is_whole : Section → Bool
is_whole Section.Version = false
is_whole Section.Cores = false
is_whole Section.Frames = false
is_whole Section.Grants = false
is_whole _ = true

-- the frames fit the cores
abbrev pub AreFrames : Head → Type 0
AreFrames h = (4 + 2 * h.cores ≤ h.frames) × (h.frames ≤ 512)

-- what holds of a head by the section that it has come to
abbrev pub HasCome : Section → Head → Type 0
HasCome Section.Version h = (h.grants ≡ []) × (h.version ≡ 1)
HasCome Section.Cores h = h.grants ≡ []
HasCome Section.Frames h = h.grants ≡ []
HasCome Section.Grants h = AreFrames h × (length h.grants < h.cores)
HasCome _ h = AreFrames h × (length h.grants ≡ h.cores)

-- a head that lines lead to
pub record IsHead (h : Head) : Type 0 where
  pub some_version : 1 ≤ h.version
  pub most_versions : h.version ≤ 3
  pub some_core : 1 ≤ h.cores
  pub most_cores : h.cores ≤ 8
  pub fit : All GrantFits h.grants
  pub most_calls : h.calls ≤ most_calls h.version
  pub machine_calls : h.calls ≤ 2 ^ 40 - 1
  pub some_epoch : 1 ≤ h.epochs
  pub most_epochs : h.epochs < 2 ^ 16
  pub come : HasCome h.section h

-- what a line says is in range
abbrev pub IsLine : Line → Type 0
IsLine (Line.Head head) = IsHead head
IsLine (Line.Call call) = InLimits call
