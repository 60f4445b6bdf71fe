-- Making the calls of lists alone, one call and one list at a time.
use Rattle.plain_kernel.specs as low
use low.seq_state.proofs.{◌≡◌, ℕ, zero, suc, ◌+◌, ◌<◌, ◌≤◌, refl, sym, ◌∙◌, ap, subst, arith, List, [], ◌∷◌, ◌++◌, length, drop}
use low.seq_state.proofs.{append_assoc, append-nil, get_or, map, length-map, get_or-map, Setting, IsSetting, Call, Reply, Limits, State}
use low.seq_state.proofs.{after, opened, limits_stay, runs_sound, Represents, state_of, Kind}
use Rattle.plain_tables.specs.kernel_history.specs.{list_of, lines_below, tables_of, start}
use low.kernel_rules.specs.{plain_reply, plain_step, plain_steps}
use Rattle.plain_tables.specs.kernel_history.specs.Text.{plain_lines, plain_state, plain_text}
use Rattle.plain_run.specs.Plain.{HasReached, IsRunnable, AreRunnable, Ran, RunsCall, RunsList, RunsLists}
use low.{IsReached, StepsExactly, same_changes.proofs.Reaching.fit_below, seq_state.specs.Maps.Maps}
use Rattle.{plain_tables.specs.table_lines.proofs.lines_none, plain_tables.specs.table_lines.proofs.lines_more, std.proofs.Common.drop-cons}
use Rattle.{std.proofs.lemmas.List.drop_all, spk_nums.specs.Texts.reply_line_text, plain_tables.specs.Within.ThreadsWithin}

-- The kernel has as many cores as the setting.
pub cores_of : (setting : Setting) (k : Maps) (s : State) → IsReached setting k s → (state_of k).limits.cores ≡ setting.cores
cores_of setting k s r =
    ap (λ (l : Limits). l.cores) r.represents.limits ∙ ap (λ (x : State). x.limits.cores) (sym r.state)
    ∙ ap (λ (l : Limits). l.cores) (limits_stay setting r.events)

-- Where the making of core c's calls stands, after the first i: what is left to make and to write gives the whole.
pub record Midway (setting : Setting) (s : State) (c : ℕ) (calls : List Call) (text : List ℕ) (i : ℕ) (k : Maps) (now : List ℕ) : Type 0
  where
    pub state : State
    pub reached : IsReached setting k state
    pub steps : plain_steps state c (drop i calls) ≡ plain_steps s c calls
    pub lines : now ++ plain_lines state c (i + 1) (drop i calls) ≡ text ++ plain_lines s c 1 calls

pub at_first : (setting : Setting) (s : State) (c : ℕ) (calls : List Call) (text : List ℕ) (k : Maps) → IsReached setting k s
    → Midway setting s c calls text 0 k text
at_first setting s c calls text k r = record { state = s; reached = r; steps = refl; lines = refl }

-- One more call.
pub one_more : (setting : Setting) (s : State) (c : ℕ) (calls : List Call) (text : List ℕ) (i : ℕ) (k k' : Maps) (now now' : List ℕ)
    (call : Call)
    → i < length calls → call ≡ get_or calls i call → Midway setting s c calls text i k now → RunsCall setting k k' c (i + 1) call now now'
    → Midway setting s c calls text (i + 1) k' now'
one_more setting s c calls text i k k' now now' call less is mid runs =
    let done = runs mid.state mid.reached in
    let rest = drop (i + 1) calls in
    let line = reply_line_text c (i + 1) call (plain_reply mid.state c call) in
    let next : suc i ≡ i + 1 = omega arith in
    let cut : drop i calls ≡ call ∷ rest = drop-cons calls i call less ∙ ap (λ x. x ∷ drop (suc i) calls) (sym is)
    ∙ ap (λ n. call ∷ drop n calls) next in
    record {
      state = plain_step mid.state c call;
      reached = done.reached;
      steps = ap (plain_steps mid.state c) (sym cut) ∙ mid.steps;
      lines = ap (λ x. x ++ plain_lines (plain_step mid.state c call) c (i + 1 + 1) rest) done.written
          ∙ append_assoc now line (plain_lines (plain_step mid.state c call) c (i + 1 + 1) rest)
          ∙ ap (λ l. now ++ plain_lines mid.state c (i + 1) l) (sym cut) ∙ mid.lines;
    }

-- From a state that the kernel has reached it has reached some state, after some of the calls.
pub reached_midway : (setting : Setting) (c : ℕ) (calls : List Call) (text : List ℕ) (i : ℕ) (k k' : Maps) (now : List ℕ)
    → ((s : State) → IsReached setting k s → Midway setting s c calls text i k' now) → HasReached setting k → HasReached setting k'
reached_midway setting c calls text i k k' now mid h = let m = mid h.state h.reached in record { state = m.state; reached = m.reached }

-- All calls.
pub at_last : (setting : Setting) (s : State) (c : ℕ) (calls : List Call) (text : List ℕ) (i : ℕ) (k : Maps) (now : List ℕ)
    → length calls ≤ i
    → Midway setting s c calls text i k now → Ran setting k (plain_steps s c calls) text (plain_lines s c 1 calls) now
at_last setting s c calls text i k now past mid =
    let none : drop i calls ≡ [] = drop_all i calls past in
    record {
      reached = subst (IsReached setting k) (ap (plain_steps mid.state c) (sym none) ∙ mid.steps) mid.reached;
      written = sym (append-nil now) ∙ ap (λ l. now ++ plain_lines mid.state c (i + 1) l) (sym none) ∙ mid.lines;
    }

-- ---- list by list

state_none : (calls : ℕ → List Call) (s : State) → plain_state calls 0 s ≡ s
unfolding plain_state
state_none calls s = refl

state_more : (calls : ℕ → List Call) (n : ℕ) (s : State) → plain_state calls (n + 1) s ≡ plain_steps (plain_state calls n s) n (calls n)
unfolding plain_state
state_more calls n s = let e : n + 1 ≡ suc n = omega arith in rw e

pub no_list : (setting : Setting) (k : Maps) (calls : ℕ → List Call) (text : List ℕ) → RunsLists setting k k calls 0 text text
no_list setting k calls text s r = record {
  reached = subst (IsReached setting k) (sym (state_none calls s)) r;
  written = sym (ap (λ l. text ++ l) (lines_none (λ c. plain_lines (plain_state calls c s) c 1 (calls c))) ∙ append-nil text);
}

-- One more list.
pub one_list : (setting : Setting) (k k' k'' : Maps) (calls : ℕ → List Call) (n : ℕ) (list : List Call) (text mid now : List ℕ)
    → list ≡ calls n
    → RunsLists setting k k' calls n text mid → RunsList setting k' k'' n list mid now → RunsLists setting k k'' calls (n + 1) text now
one_list setting k k' k'' calls n list text mid now is before goes s r =
    let one = before s r in
    let two = subst (λ l. Ran setting k'' (plain_steps (plain_state calls n s) n l) mid (plain_lines (plain_state calls n s) n 1 l) now)
    is (goes (plain_state calls n s) one.reached) in
    let line = λ (c : ℕ). plain_lines (plain_state calls c s) c 1 (calls c) in
    record {
      reached = subst (IsReached setting k'') (sym (state_more calls n s)) two.reached;
      written = two.written ∙ ap (λ x. x ++ line n) one.written ∙ append_assoc text (lines_below line n) (line n)
          ∙ ap (λ x. text ++ x) (sym (lines_more line n));
    }

-- From a state that the kernel has reached it has reached some state.
pub has_reached : (setting : Setting) (k k' : Maps) (calls : ℕ → List Call) (n : ℕ) (text now : List ℕ)
    → RunsLists setting k k' calls n text now → HasReached setting k → HasReached setting k'
has_reached setting k k' calls n text now goes h = record
    { state = plain_state calls n h.state; reached = (goes h.state h.reached).reached }

-- A call that is made and answered, with its line.
pub call_ran : (setting : Setting) → IsSetting setting → (k k' : Maps) (c index : ℕ) (call : Call) (r : Reply) (text text' : List ℕ)
    → StepsExactly k c call r k'
    → text' ≡ text ++ reply_line_text c index call r → RunsCall setting k k' c index call text text'
call_ran setting lim k k' c index call r text text' step written s reached =
    let done = step setting lim s reached in
    record { reached = done.reached; written = written ∙ ap (λ q. text ++ reply_line_text c index call q) done.reply }

-- The list of a core, as it is read.
pub list_at : {V : Type 0} (items : V → List Call) (lists : List V) (n at : ℕ) (v : V) (list : List Call) → n < length lists → at ≡ n
    → v ≡ get_or lists at v
    → list ≡ items v → list ≡ list_of (map items lists) n
list_at items lists n at v list below same is read =
    read ∙ ap items (is ∙ ap (λ k. get_or lists k v) same) ∙ sym (get_or-map items lists n v [] below)

pub runnable_at : {V : Type 0} (items : V → List Call) (lists : List V) (n : ℕ) (list : List Call) → n < length lists
    → list ≡ list_of (map items lists) n
    → AreRunnable (map items lists) → IsRunnable list
runnable_at items lists n list below is runnable =
    subst IsRunnable (sym is) (runnable n [] (omega (arith, below, length-map lists items)))

-- The kernel that starts has reached the start state.
pub started : (setting : Setting) (k : Maps) → Represents k (start setting) → IsReached setting k (start setting)
started setting k e = record { events = []; runs = tt; quiet = λ c. refl; state = refl; represents = e }

-- In a state that the kernel has reached, the current thread of each core is in a frame of the machine.
pub threads_within : (setting : Setting) → IsSetting setting → (k : Maps) (s : State) → IsReached setting k s → ThreadsWithin s
threads_within setting lim k s r =
    let sound = runs_sound setting lim r.events r.runs in
    subst ThreadsWithin r.state (λ c below. fit_below (after setting r.events) (opened r.events) Kind.Thread
    ((after setting r.events).core c).thread sound refl (sound.cores c below).0)

-- The whole text: the lines of all lists, and then the tables of the last state.
pub whole_text : (setting : Setting) (k k' : Maps) (calls : ℕ → List Call) (text now tables all : List ℕ) → IsSetting setting
    → IsReached setting k (start setting)
    → text ≡ [] → RunsLists setting k k' calls setting.cores text now
    → ((s : State) → ThreadsWithin s → Represents k' s → tables ≡ tables_of s) → all ≡ now ++ tables
    → all ≡ plain_text setting calls
whole_text setting k k' calls text now tables all lim start_reached none runs shown is =
    let ran = runs (start setting) start_reached in
    let last = plain_state calls setting.cores (start setting) in
    let line = λ (c : ℕ). plain_lines (plain_state calls c (start setting)) c 1 (calls c) in
    is ∙ ap (λ x. x ++ tables) (ran.written ∙ ap (λ x. x ++ lines_below line setting.cores) none)
    ∙ ap (λ x. lines_below line setting.cores ++ x) (shown last (threads_within setting lim k' last ran.reached) ran.reached.represents)
