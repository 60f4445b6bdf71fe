-- How a step of an act ends: one that is not ready answers nothing, and one that is decides, with a stamp within its range or none.
use Rattle.act_states.specs as low
use low.{Close, AtCompare, AtDraw, AtStore, Quiet, close_end, close_after, ◌≡◌, ℕ, ◌==◌, ltb as nat_lt, Bool, true, false, Option, Some}
use low.{None, if◌then◌else◌, ◌||◌, Capability, FrameKind, Entry, found, shown_in, look_end, look_after, end_by_link, Look, AtRoot, AtLeaf}
use low.{AtEntry, StageEnd, took_charge, took_tick, is_charging, Charge, end_by_mark, head_end, head_of_word, word_of_head, HeadWord}
use low.{is_some, Obj, is_filling, took_close, took_act, act_ready, meets_object, meets_blank, meets_making, marks_if, took_making_at}
use low.{meets_comp, meets_live, meets_number, meets_life, closes_if, took_killing_at, meets_untyped, meets_untyping, sweeps_if, took_sweep}
use low.{took_untyping_at, maps_frame, maps_word, comp_marks, took_comp_at, meets_table, meets_pages, meets_gate, took_invoking_at}
use low.{meets_below, meets_below_table, meets_below_pages, took_returning_at, switch_pages, took_switching_at, comp_filling, comp_goes}
use low.{comp_refuses, comp_meets, comp_meets_object, comp_meets_blank, number_met, number_shown, takes_number, scans_number}
use low.{number_scanned, closes_number, live_of_word, FrameWord, CompWord, comp_of_word, LiveWord, is_killing, Shape, Sweep, Swept}
use low.{is_drawing, is_entering, frame_in, is_leaving, below_in, is_switching, took_claim, switch_table, Claim as ClaimOf, Claimed}
use low.{meets_frame, meets_word, took_typing_at, is_typing, Translation, touch_end, touched, is_at_page, took_refilled, took_refill}
use low.{quality_of_word, QualityWord, refill_after, Refill, RefillAt}
use low.stage_tcap.specs.{Untyped, User, Kernel, Blank, word_end, weighed, again}
use low.stage_thread.specs.{claim_after, claim_end}
use low.stage_tcap.specs.declared.charge.Charge.TheVariants.{AtLoad as charge_load, AtCompare as charge_compare}
use low.{declared.makings.Making.Making, declared.makings.MakingAt.MakingAt, declared.makings.MakingAt.TheVariants.Load as make_load}
use low.{declared.makings.MakingAt.TheVariants.Mark, declared.makings.MakingAt.TheVariants.Store}
use low.{declared.makings.MakingAt.TheVariants.Fill as fill_at, declared.work.Act.Act as ActType}
use low.{declared.work.Act.TheVariants.Fill as fill_act, declared.work.Act.TheVariants.Remove as remove_act}
use low.{declared.work.Act.TheVariants.Retype as type_act, declared.work.Act.TheVariants.Make as make_act}
use low.{declared.work.Act.TheVariants.Outside, declared.work.Act.TheVariants.Tick as tick_act}
use low.{declared.work.Act.TheVariants.Flush as flush_act, declared.work.Act.TheVariants.Kill as kill_act}
use low.{declared.work.Act.TheVariants.Untype as untype_act, declared.work.Act.TheVariants.Map as map_act}
use low.{declared.work.Act.TheVariants.MakeComp as comp_act, declared.work.Act.TheVariants.Invoke as invoke_act}
use low.{declared.work.Act.TheVariants.Return as return_act, declared.work.Act.TheVariants.Switch as switch_act}
use low.{declared.work.Act.TheVariants.Touch as touch_act, declared.work.Act.TheVariants.Share as share_act}
use low.{declared.work.Act.TheVariants.Refill as refill_act, Acts.is_draw, declared.fills.Fill.Fill, declared.comps.CompAt.CompAt}
use low.{declared.comps.CompMaking.CompMaking, declared.comps.LastEpoch.LastEpoch, declared.kills.Killing.Killing}
use low.{declared.kills.KillingAt.KillingAt, declared.kills.KillingAt.TheVariants.LoadComp, declared.kills.KillingAt.TheVariants.LoadLive}
use low.{declared.kills.KillingAt.TheVariants.Close as kill_close, declared.kills.KillingAt.TheVariants.Draw as kill_draw}
use low.{declared.untypings.Untyping.Untyping, declared.untypings.UntypingAt.UntypingAt, declared.invocations.Invoking.Invoking}
use low.{declared.invocations.InvokingAt.InvokingAt, declared.invocations.Returning.Returning, declared.invocations.ReturningAt.ReturningAt}
use low.{declared.switches.Switching.Switching, declared.switches.SwitchAt.SwitchAt, declared.typings.Typing.Typing}
use low.{declared.typings.TypingAt.TypingAt, declared.typings.TypingAt.TheVariants.Load}
use low.{declared.typings.TypingAt.TheVariants.Compare as type_compare, declared.touches.Touching.Touching, Refills.is_refilling}
use Rattle.call_stages.proofs.{Answering.NoAnswer, Answering.IsOver, Answering.EndsBy, ShareDecisions.share_ends}
use low.{stage_quiet.specs.Removal.close_compared, stage_look.specs.Lookup.root_end, declared.refusals.Refusal.Refusal}
use low.stage_tcap.proofs.{subst}
use low.stage_tcap.specs.{won}
use low.stage_quiet.proofs.QuietLemmas.{drawn_in_range}
use low.{place_end, typed_if, published, charged_end, head, min, enters_if, enters_live, comp_published, filled_if}

compare_no : (cap : Capability) (close : Close) (same : Bool) → NoAnswer (took_close cap close (close_compared same))
compare_no cap close true = tt
compare_no cap close false = tt

close_ends : (cap : Capability) (close : Close) (found : ℕ)
    → EndsBy (is_draw close) (took_close cap (close_after close found) (close_end close found))
close_ends cap (AtCompare node index word core) found = compare_no cap _ (found == word)
close_ends cap (AtDraw node index) found = (tt, (drawn_in_range found).1)
close_ends cap (AtStore node index stamp) found = tt

kind_no : (y : Typing) (word : ℕ) (k : FrameKind) (mark : Option ℕ) → NoAnswer (meets_frame y word k mark)
kind_no y word k (Some d) = tt
kind_no y word Untyped None = tt
kind_no y word User None = tt
kind_no y word Kernel None = tt

word_no : (y : Typing) (word : ℕ) (o : Option FrameWord) → NoAnswer (meets_word y word o)
word_no y word None = tt
word_no y word (Some v) = kind_no y word v.kind v.mark

typed_ends : (equal : Bool) → EndsBy true (typed_if equal)
typed_ends true = (tt, tt)
typed_ends false = (tt, tt)

typing_ends : (y : Typing) (at : TypingAt) (found : ℕ) → EndsBy (is_typing at) (took_typing_at y at found)
typing_ends y Load found = word_no y found _
typing_ends y (type_compare word) found = typed_ends _

object_no : (m : Making) (word : ℕ) (o : Obj) → NoAnswer (meets_object m word o)
object_no m word Blank = tt
object_no m word o = tt

blank_no : (m : Making) (word : ℕ) (k : FrameKind) (o : Obj) (mark : Option ℕ) → NoAnswer (meets_blank m word k o mark)
blank_no m word k o (Some d) = tt
blank_no m word Untyped o None = tt
blank_no m word User o None = tt
blank_no m word Kernel o None = object_no m word o

met_no : (m : Making) (word : ℕ) (o : Option FrameWord) → NoAnswer (meets_making m word o)
met_no m word None = tt
met_no m word (Some v) = blank_no m word v.kind v.object v.mark

marks_no : (m : Making) (word : ℕ) (equal : Bool) → NoAnswer (marks_if m word equal)
marks_no m word true = tt
marks_no m word false = tt

published_ends : (m : Making) (word : ℕ) (equal : Bool) → EndsBy true (published m word equal)
published_ends m word true = (tt, tt)
published_ends m word false = (tt, tt)

making_ends : (m : Making) (at : MakingAt) (found : ℕ) → EndsBy (is_filling at) (took_making_at m at found)
making_ends m make_load found = met_no m found _
making_ends m (Mark word) found = marks_no m word _
making_ends m (Store word entry) found = tt
making_ends m (fill_at word) found = published_ends m word _

head_no : (charge : Charge) (due : ℕ) (o : Option HeadWord) → NoAnswer (took_charge due charge (head_end o))
head_no charge due None = tt
head_no charge due (Some v) = by v.mark
  where
    by : (mark : Option ℕ) → NoAnswer (took_charge due charge (end_by_mark mark))
    by None = tt
    by (Some d) = tt

charge_ends : (charge : Charge) (found : ℕ) → EndsBy (is_charging charge) (took_tick charge found)
charge_ends (charge_load tcap ticks) found = head_no _ ticks (head_of_word found)
charge_ends (charge_compare tcap ticks budget version) found = by (found == word_of_head (head budget version))
  where
    by : (equal : Bool) → EndsBy true (took_charge ticks (charge_compare tcap ticks budget version)
        (charged_end equal (min ticks budget)))
    by true = (tt, tt)
    by false = (tt, tt)

-- the giving back of ticks goes on, or is refused, before its compare
refill_head_no : (r : Refill) (o : Option HeadWord) → NoAnswer (took_refilled r (head_end o))
refill_head_no r None = tt
refill_head_no r (Some h) = by h.mark
  where
    by : (mark : Option ℕ) → NoAnswer (took_refilled r (end_by_mark mark))
    by None = tt
    by (Some d) = tt

refill_word_no : (r : Refill) (less : Bool) (left : ℕ) (o : Option QualityWord)
    → NoAnswer (took_refilled r (word_end o (weighed less left)))
refill_word_no r less left None = tt
refill_word_no r true left (Some v) = tt
refill_word_no r false left (Some v) = tt

refill_ends : (r : Refill) (at : RefillAt) (found : ℕ) → EndsBy (is_refilling at) (took_refill (record r { at = at }) found)
refill_ends r RefillAt.Load found = refill_head_no _ (head_of_word found)
refill_ends r (RefillAt.List entry) found = refill_word_no _ _ _ (quality_of_word found)
refill_ends r RefillAt.Compare found = by (found == word_of_head r.head)
  where
    by : (equal : Bool) → EndsBy true (took_refilled (refill_after (record r { at = RefillAt.Compare }) found) (won equal))
    by true = (tt, tt)
    by false = (tt, tt)
refill_ends r RefillAt.Again found = by (found == word_of_head r.head)
  where
    by : (same : Bool) → NoAnswer (took_refilled (refill_after (record r { at = RefillAt.Again }) found) (again same))
    by true = tt
    by false = tt

lives_no : (m : Killing) (life : CompWord) (word : ℕ) (lives : Bool) → NoAnswer (meets_life m life word lives)
lives_no m life word true = tt
lives_no m life word false = tt

number_no : (m : Killing) (life : CompWord) (word : ℕ) (v : LiveWord) → NoAnswer (meets_number m life word v)
number_no m life word LiveWord.Free = tt
number_no m life word (LiveWord.Live epoch f) = lives_no m life word _
number_no m life word (LiveWord.Closing epoch by) = tt
number_no m life word (LiveWord.Dead epoch stamp) = tt

live_no : (m : Killing) (life : CompWord) (word : ℕ) (o : Option LiveWord) → NoAnswer (meets_live m life word o)
live_no m life word None = tt
live_no m life word (Some v) = number_no m life word v

comp_no : (m : Killing) (o : Option CompWord) → NoAnswer (meets_comp m o)
comp_no m None = tt
comp_no m (Some life) = tt

closes_no : (m : Killing) (life : CompWord) (word : ℕ) (equal : Bool) → NoAnswer (closes_if m life word equal)
closes_no m life word true = tt
closes_no m life word false = tt

killing_ends : (m : Killing) (at : KillingAt) (found : ℕ) → EndsBy (is_killing at) (took_killing_at m at found)
killing_ends m LoadComp found = comp_no m _
killing_ends m (LoadLive life) found = live_no m life found _
killing_ends m (kill_close life word) found = closes_no m life word _
killing_ends m (kill_draw life word) found = (tt, (drawn_in_range found).1)

invoking_ends : (m : Invoking) (at : InvokingAt) (found : ℕ) → EndsBy (is_entering at) (took_invoking_at m at found)
invoking_ends m InvokingAt.LoadTable found = by (frame_in m.frames found)
  where
    by : (o : Option ℕ) → NoAnswer (meets_table m o)
    by None = tt
    by (Some table) = tt
invoking_ends m (InvokingAt.LoadPages table) found = by (frame_in m.frames found)
  where
    by : (o : Option ℕ) → NoAnswer (meets_pages m table o)
    by None = tt
    by (Some pages) = tt
invoking_ends m (InvokingAt.LoadComp table pages) found = by (comp_of_word found)
  where
    by : (o : Option CompWord) → NoAnswer (meets_gate m table pages o)
    by None = tt
    by (Some life) = tt
invoking_ends m (InvokingAt.LoadLive table pages life) found = by (live_of_word found)
  where
    lives : (same : Bool) → EndsBy true (enters_if m table pages same)
    lives true = (tt, tt)
    lives false = (tt, tt)

    by : (o : Option LiveWord) → EndsBy true (enters_live m table pages o)
    by None = (tt, tt)
    by (Some LiveWord.Free) = (tt, tt)
    by (Some (LiveWord.Live epoch f)) = lives (epoch == m.epoch)
    by (Some (LiveWord.Closing epoch d)) = (tt, tt)
    by (Some (LiveWord.Dead epoch stamp)) = (tt, tt)

returning_ends : (m : Returning) (at : ReturningAt) (found : ℕ) → EndsBy (is_leaving at) (took_returning_at m at found)
returning_ends m ReturningAt.LoadBelow found = by (below_in m.frames found)
  where
    by : (o : Option ℕ) → NoAnswer (meets_below m o)
    by None = tt
    by (Some comp) = tt
returning_ends m (ReturningAt.LoadTable comp) found = by (frame_in m.frames found)
  where
    by : (o : Option ℕ) → NoAnswer (meets_below_table m comp o)
    by None = tt
    by (Some table) = tt
returning_ends m (ReturningAt.LoadPages comp table) found = by (frame_in m.frames found)
  where
    by : (o : Option ℕ) → NoAnswer (meets_below_pages m comp table o)
    by None = tt
    by (Some pages) = tt
returning_ends m (ReturningAt.Draw comp table pages) found = (tt, (drawn_in_range found).1)

claim_no : (m : Switching) (claim : ClaimOf) (end : StageEnd Claimed) → NoAnswer (took_claim m claim end)
claim_no m claim StageEnd.Going = tt
claim_no m claim (StageEnd.Decided r) = tt
claim_no m claim (StageEnd.Done to) = tt
claim_no m claim (StageEnd.Refuse r) = tt

switching_ends : (m : Switching) (at : SwitchAt) (found : ℕ) → EndsBy (is_switching at) (took_switching_at m at found)
switching_ends m (SwitchAt.Claim claim) found = claim_no m (claim_after claim found) (claim_end m.frames claim found)
switching_ends m (SwitchAt.LoadTable to) found = by (frame_in m.frames found)
  where
    by : (o : Option ℕ) → NoAnswer (switch_table m to o)
    by None = tt
    by (Some table) = tt
switching_ends m (SwitchAt.LoadPages to table) found = by (frame_in m.frames found)
  where
    by : (o : Option ℕ) → NoAnswer (switch_pages m to table o)
    by None = tt
    by (Some pages) = tt
switching_ends m (SwitchAt.Leave to table pages) found = tt
switching_ends m (SwitchAt.Draw to table pages) found = (tt, (drawn_in_range found).1)

taking_no : (m : CompMaking) (word : ℕ) (last : LastEpoch) → NoAnswer (takes_number m word last)
taking_no m word last = by (nat_lt last.epoch m.epochs)
  where
    by : (b : Bool) → NoAnswer (if b then comp_goes m (CompAt.Close word last) else comp_refuses m word Refusal.EpochsSpent)
    by true = tt
    by false = tt

scanning_no : (m : CompMaking) (word : ℕ) (last : LastEpoch) (o : Option Quiet) → NoAnswer (scans_number m word last o)
scanning_no m word last None = taking_no m word last
scanning_no m word last (Some q) = tt

shown_no : (m : CompMaking) (word found : ℕ) (v : LiveWord) → NoAnswer (number_shown m word found v)
shown_no m word found LiveWord.Free = taking_no m word _
shown_no m word found (LiveWord.Live epoch f) = tt
shown_no m word found (LiveWord.Closing epoch by) = tt
shown_no m word found (LiveWord.Dead epoch stamp) = scanning_no m word _ _

number_met_no : (m : CompMaking) (word found : ℕ) (o : Option LiveWord) → NoAnswer (number_met m word found o)
number_met_no m word found None = tt
number_met_no m word found (Some v) = shown_no m word found v

scanned_no : (m : CompMaking) (word : ℕ) (last : LastEpoch) (q : Quiet) (end : StageEnd (Unit {0}))
    → NoAnswer (number_scanned m word last q end)
scanned_no m word last q StageEnd.Going = tt
scanned_no m word last q (StageEnd.Decided r) = tt
scanned_no m word last q (StageEnd.Done x) = taking_no m word last
scanned_no m word last q (StageEnd.Refuse r) = tt

comp_object_no : (m : CompMaking) (word : ℕ) (o : Obj) → NoAnswer (comp_meets_object m word o)
comp_object_no m word Blank = tt
comp_object_no m word o = tt

comp_blank_no : (m : CompMaking) (word : ℕ) (k : FrameKind) (o : Obj) (mark : Option ℕ) → NoAnswer (comp_meets_blank m word k o mark)
comp_blank_no m word k o (Some d) = tt
comp_blank_no m word Untyped o None = tt
comp_blank_no m word User o None = tt
comp_blank_no m word Kernel o None = comp_object_no m word o

comp_met_no : (m : CompMaking) (word : ℕ) (o : Option FrameWord) → NoAnswer (comp_meets m word o)
comp_met_no m word None = tt
comp_met_no m word (Some v) = comp_blank_no m word v.kind v.object v.mark

comp_marks_no : (m : CompMaking) (word : ℕ) (equal : Bool) → NoAnswer (comp_marks m word equal)
comp_marks_no m word true = tt
comp_marks_no m word false = tt

comp_closes_no : (m : CompMaking) (word : ℕ) (last : LastEpoch) (equal : Bool) → NoAnswer (closes_number m word last equal)
comp_closes_no m word last true = tt
comp_closes_no m word last false = tt

comp_published_ends : (m : CompMaking) (word : ℕ) (last : LastEpoch) (equal : Bool) → EndsBy true (comp_published m word last equal)
comp_published_ends m word last true = (tt, tt)
comp_published_ends m word last false = (tt, tt)

comp_ends : (m : CompMaking) (at : CompAt) (found : ℕ) → EndsBy (comp_filling at) (took_comp_at m at found)
comp_ends m CompAt.Load found = comp_met_no m found _
comp_ends m (CompAt.Mark word) found = comp_marks_no m word _
comp_ends m (CompAt.LoadLive word) found = number_met_no m word found (live_of_word found)
comp_ends m (CompAt.Scan word last q) found = scanned_no m word last _ _
comp_ends m (CompAt.Close word last) found = comp_closes_no m word last _
comp_ends m (CompAt.Store word last entry) found = tt
comp_ends m (CompAt.Fill word last) found = comp_published_ends m word last _

untyped_no : (m : Untyping) (word : ℕ) (v : FrameWord) (k : FrameKind) (mark : Option ℕ) → NoAnswer (meets_untyped m word v k mark)
untyped_no m word v k (Some d) = tt
untyped_no m word v Untyped None = tt
untyped_no m word v User None = tt
untyped_no m word v Kernel None = tt

untyping_met : (m : Untyping) (word : ℕ) (o : Option FrameWord) → NoAnswer (meets_untyping m word o)
untyping_met m word None = tt
untyping_met m word (Some v) = untyped_no m word v v.kind v.mark

sweeps_no : (m : Untyping) (word : ℕ) (v : FrameWord) (equal : Bool) → NoAnswer (sweeps_if m word v equal)
sweeps_no m word v true = tt
sweeps_no m word v false = tt

sweep_no : (m : Untyping) (word : ℕ) (w : Sweep) (end : StageEnd Swept) → NoAnswer (took_sweep m word w end)
sweep_no m word w StageEnd.Going = tt
sweep_no m word w (StageEnd.Decided r) = tt
sweep_no m word w (StageEnd.Done swept) = tt
sweep_no m word w (StageEnd.Refuse r) = tt

untyping_ends : (s : Shape) (m : Untyping) (at : UntypingAt) (found : ℕ) → EndsBy (is_drawing at) (took_untyping_at s m at found)
untyping_ends s m UntypingAt.Load found = untyping_met m found _
untyping_ends s m (UntypingAt.Mark word v) found = sweeps_no m word v _
untyping_ends s m (UntypingAt.Sweep word w) found = sweep_no m word _ _
untyping_ends s m (UntypingAt.Draw word w) found = (tt, (drawn_in_range found).1)

map_kind_no : (fill : Fill) (k : FrameKind) (mark : Option ℕ) → NoAnswer (maps_frame fill k mark)
map_kind_no fill k (Some d) = tt
map_kind_no fill User None = tt
map_kind_no fill k None = tt

map_no : (fill : Fill) (o : Option FrameWord) → NoAnswer (maps_word fill o)
map_no fill None = tt
map_no fill (Some v) = map_kind_no fill v.kind v.mark

touch_link_no : (m : Touching) (linked : Bool) (look : Look) → NoAnswer (touch_end m look (end_by_link linked))
touch_link_no m true look = tt
touch_link_no m false look = tt

touch_root_no : (m : Touching) (look : Look) (shown : Option Entry) → NoAnswer (touch_end m look (root_end shown))
touch_root_no m look None = tt
touch_root_no m look (Some Entry.Free) = tt
touch_root_no m look (Some (Entry.Held k)) = touch_link_no m _ look
touch_root_no m look (Some (Entry.Closing by)) = tt
touch_root_no m look (Some (Entry.Quiescing stamp)) = tt

page_ends : (m : Touching) (look : Look) (node index word : ℕ) (shown : Option Entry)
    → EndsBy true (touch_end m look (place_end node index word shown))
page_ends m look node index word None = (tt, tt)
page_ends m look node index word (Some Entry.Free) = (tt, tt)
page_ends m look node index word (Some (Entry.Held k)) = (tt, tt)
page_ends m look node index word (Some (Entry.Closing by)) = (tt, tt)
page_ends m look node index word (Some (Entry.Quiescing stamp)) = (tt, tt)

touched_ends : (m : Touching) (found : ℕ) (cached : Option Translation)
    → EndsBy (is_some cached || is_at_page m.look) (touched m found cached)
touched_ends m found (Some item) = (tt, tt)
touched_ends m found None = by m.look
  where
    by : (look : Look) → EndsBy (is_at_page look)
        (touch_end m (look_after look (shown_in m.frames found)) (look_end look found (shown_in m.frames found)))
    by (AtRoot root number) = touch_root_no m _ (shown_in m.frames found)
    by (AtLeaf leaf number) = page_ends m _ _ _ found (shown_in m.frames found)
    by (AtEntry root index) = page_ends m _ _ _ found (shown_in m.frames found)

fill_ends : (equal : Bool) → EndsBy true (filled_if equal)
fill_ends true = (tt, tt)
fill_ends false = (tt, tt)

pub act_ends : (s : Shape) (act : ActType) (found : ℕ) → EndsBy (act_ready act) (took_act s act found)
act_ends s (fill_act fill) found = fill_ends _
act_ends s (remove_act close cap) found = close_ends cap close found
act_ends s (type_act y) found = typing_ends y y.at found
act_ends s (make_act m) found = making_ends m m.at found
act_ends s (map_act fill) found = map_no fill _
act_ends s (Outside node entry word) found = tt
act_ends s (tick_act charge) found = charge_ends charge found
act_ends s (touch_act m) found = touched_ends m found m.cached
act_ends s (flush_act core) found = (tt, tt)
act_ends s (kill_act m) found = killing_ends m m.at found
act_ends s (untype_act m) found = untyping_ends s m m.at found
act_ends s (comp_act m) found = comp_ends m m.at found
act_ends s (invoke_act m) found = invoking_ends m m.at found
act_ends s (return_act m) found = returning_ends m m.at found
act_ends s (switch_act m) found = switching_ends m m.at found
act_ends s (share_act p) found = share_ends p p.at found
act_ends s (refill_act r) found = refill_ends r r.at found

-- So a step that is not ready answers nothing, and one that is decides.
pub act_unready : (s : Shape) (act : ActType) (found : ℕ) → act_ready act ≡ false → NoAnswer (took_act s act found)
act_unready s act found not = subst (λ (b : Bool). EndsBy b (took_act s act found)) not (act_ends s act found)

pub act_over : (s : Shape) (act : ActType) (found : ℕ) → act_ready act ≡ true → IsOver (took_act s act found)
act_over s act found ready = (subst (λ (b : Bool). EndsBy b (took_act s act found)) ready (act_ends s act found)).0
