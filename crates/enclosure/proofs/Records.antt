-- A record is the one that its own bytes make.
use Rattle.std.proofs.Common.{◌≡◌, ℕ, Bool, true, false, T, Some, Ok, sym, refl, ap}
use Rattle.std.specs.Option.{ok_or}
use Rattle.enclosure.specs.declared.record.SlotRecord.{SlotRecord}
use Rattle.enclosure.specs.Flags.{sound}
use Rattle.enclosure.specs.Records.{record_if, record_made}

if_sound : (flags more : ℕ) (k : Bool) (f : T k → T (sound flags more)) (c : T k) → record_if flags more k f ≡ Some (record { flags = flags; more = more; sound = f c })
if_sound flags more true f c = refl
if_sound flags more false f c = absurd c

pub record_back : (r : SlotRecord) → record_made r.flags r.more ≡ Some r
record_back r = if_sound r.flags r.more (sound r.flags r.more) (λ t. t) r.sound

pub record_kept : {E : Type 0} (r : SlotRecord) (e : E) → Ok r ≡ ok_or (record_made r.flags r.more) e
record_kept r e = ap (λ o. ok_or o e) (sym (record_back r))
