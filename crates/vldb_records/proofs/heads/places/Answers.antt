use Rattle.std.proofs.Common.{◌≡◌, ◌<◌, IfSome, Result, Ok, Err, length, take, drop, refl, arith}
use Rattle.db_image.specs.declared.faults.RecordFault.{RecordFault}
use Rattle.db_image.specs.declared.faults.RecordFault.TheVariants as fault
use Rattle.db_image.specs.declared.images.ReadEnd.{ReadEnd}
use Rattle.db_image.specs.declared.images.ReadEnd.TheVariants as end
use Rattle.vldb_entries.proofs.HeadRead.{addresses_read}
use Rattle.vldb_records.proofs.heads.places.Goals as goal

-- a read that ended well
is_done : (e : ReadEnd) (r : Result (Unit {0}) RecordFault) (u : Unit {0}) → (e ≡ end.DiskFault → r ≡ Err fault.DiskFault)
    → (e ≡ end.NoMemory → r ≡ Err fault.NoMemory) → r ≡ Ok u → e ≡ end.Done
is_done end.Done r u disk memory is = refl
is_done end.DiskFault r u disk memory is = let err = disk refl in absurd cc
is_done end.NoMemory r u disk memory is = let err = memory refl in absurd cc

pub returns-clause-exact : goal.returns-clause-exact
returns-clause-exact g c =
    let told : IfSome c.args.d.now.bytes (λ image. length image ≡ c.len-len.result) = rw c.len-len.ensures.size c.len-len.ensures.told in
    let more : 0 < c.len-len.result = omega arith in
    let read : IfSome c.args.d.now.bytes (λ image. c.read.new.buf ≡ take 1020 (drop 64 image)) =
    c.read.ensures.bytes (is_done c.read.result c.done.result c.in_ok-done.field-0 c.done.ensures.fault c.done.ensures.no_memory
    c.in_ok-done.was) in
    rw c.words_in.ensures (addresses_read c.args.d.now.bytes c.len-len.result c.read.new.buf told more read)
