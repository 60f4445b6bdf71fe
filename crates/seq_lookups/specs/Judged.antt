-- What is looked up in the plain kernel, as what the definitions judge.
use Rattle.seq_state.specs.kernel_rules.specs.{Bool, Result, Ok, Err, Kind, Reply, Want, any, only, root, Judged, Refused, Found}
use Rattle.{seq_state.specs.spk_nums.specs.declared.rights.Rights.Rights, seq_lookups.specs.declared.names.Wanted.Wanted}

-- What was found, or the refusal.
abbrev pub judged : {A : Type 0} → Result A Reply → Judged A
judged (Ok x) = Found x
judged (Err r) = Refused r

-- The kinds that are wanted.
abbrev pub wants : Wanted → Kind → Bool
wants Wanted.Any = any
wants (Wanted.Only k) = only k
wants Wanted.Root = root

-- What is wanted: these kinds, with these rights.
abbrev pub want_of : Wanted → Rights → Want
want_of w needs = record { kinds = wants w; needs = needs.0 }
