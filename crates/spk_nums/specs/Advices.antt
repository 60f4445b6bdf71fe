-- What a caller may do about a reply.
use Rattle.spk_nums.specs.declared.advice.Advice.{Advice}
use Rattle.spk_nums.specs.declared.advice.Advice.TheVariants.{Done, Change, GiveUp, Release, AwaitReturn, AwaitFlush, AwaitSwitch, Again}
use Rattle.spk_nums.specs.declared.calls.Call.{Call}
use Rattle.spk_nums.specs.declared.calls.Call.TheVariants.{Tick}
use Rattle.spk_nums.specs.declared.replies.Reply.{Reply}
use Rattle.spk_nums.specs.declared.replies.Reply.TheVariants.{Ok as ok_reply, Quiescing, Unflushed, Referenced, Running, Raced, Busy, CallsSpent}

-- what a caller may do about a reply: of those not named here, change what it asked for
abbrev pub advice_of : Reply → Advice
advice_of (ok_reply v) = Done
advice_of CallsSpent = GiveUp
advice_of (Referenced k) = Release k
advice_of (Quiescing e) = AwaitReturn e
advice_of (Unflushed e) = AwaitFlush e
advice_of (Running e) = AwaitSwitch e
advice_of Raced = Again
advice_of (Busy d) = Again
advice_of r = Change

-- the call that makes one again after a lost race
abbrev pub again_of : Call → Call
again_of (Tick n) = Tick 0
again_of call = call
