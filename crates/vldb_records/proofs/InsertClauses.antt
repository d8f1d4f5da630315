-- What an insertion says of a draft, where its bytes are told.
use Rattle.std.proofs.Common.{◌≡◌, ℕ, ◌+◌, ◌≤◌, List, Option, Some, None, IfSome, IsSomeAnd, sym, ap, subst, ◌∙◌}
use Rattle.std.specs.Option.{option_map}
use Rattle.db_image.specs.declared.faults.RecordFault.{RecordFault}
use Rattle.db_image.specs.declared.faults.RecordFault.TheVariants.{DiskFault, BadRecord, NoMemory}
use Rattle.db_blocks.specs.Ends.{HasCause}
use Rattle.db_chains.specs.Ends.{HasSome}
use Rattle.db_chains.specs.Free.{free_links, next_number, with_taken}
use Rattle.vldb_chains.specs.Places.{free_blocks}
use Rattle.vldb_entries.specs.declared.entries.VlEntry.{VlEntry}
use Rattle.vldb_entries.specs.Location.{IsRecord, Location, MayEnter, with_entered}
use Rattle.vldb_entries.specs.Forms.{addresses_in, block_of, whole}
use Rattle.vldb_records.specs.Records.{Holds}
use Rattle.vldb_records.specs.Changes.{after_insert, entered}
use Rattle.vldb_records.specs.Ends.{HoldsSome}
use Rattle.vldb_records.proofs.Inserted.{holds_inserted}

-- ---- bytes

pub inserted : (a b c d : Option (List ℕ)) (e : VlEntry) (n : ℕ) (places block : List ℕ)
    → IfSome a (λ image. places ≡ addresses_in (whole image)) → block ≡ block_of places e → b ≡ option_map whole a
    → IfSome b (λ image. n ≡ next_number free_blocks image) → c ≡ option_map (with_taken free_blocks block) b
    → d ≡ option_map (entered n e) c → d ≡ option_map (after_insert e) a
unfolding after_insert
inserted None b c d e n places block at is first number second third =
    third ∙ ap (option_map (entered n e)) (second ∙ ap (option_map (with_taken free_blocks block)) first)
inserted (Some image) b c d e n places block at is first number second third =
    let old = whole image in
    let number_is : n ≡ next_number free_blocks old =
    subst (λ (o : Option (List ℕ)). IfSome o (λ i. n ≡ next_number free_blocks i)) first number in
    let block_is : block ≡ block_of (addresses_in old) e = is ∙ ap (λ (p : List ℕ). block_of p e) at in
    third ∙ ap (option_map (entered n e)) (second ∙ ap (option_map (with_taken free_blocks block)) first)
    ∙ ap (λ (x : List ℕ). Some (entered n e (with_taken free_blocks x old))) block_is
    ∙ ap (λ (k : ℕ). Some (entered k e (with_taken free_blocks (block_of (addresses_in old) e) old))) number_is

pub insert_makes : (a d : Option (List ℕ)) (e : VlEntry) → IsRecord e
    → d ≡ option_map (after_insert e) a
    → IfSome a (λ image. (s : Location) → Holds image s → MayEnter 0 e s → IsSomeAnd d (λ x. Holds x (with_entered 0 e s)))
insert_makes None d e is made = tt
insert_makes (Some image) d e is made = λ s holds may.
    subst (λ (o : Option (List ℕ)). IsSomeAnd o (λ x. Holds x (with_entered 0 e s))) (sym made)
    (holds_inserted image s e holds is may)

-- ---- a fault

pub free_fault : (a b : Option (List ℕ)) (fault : RecordFault) → b ≡ option_map whole a
    → HasCause b (HasSome (free_links free_blocks) 16) fault → HasCause a HoldsSome fault
free_fault a b DiskFault is cause = tt
free_fault a b NoMemory is cause = tt
free_fault None b (BadRecord at) is cause = tt
free_fault (Some image) b (BadRecord at) is cause = λ some.
    let never = subst (λ (o : Option (List ℕ)). HasCause o (HasSome (free_links free_blocks) 16) (BadRecord at)) is cause in
    let laid = some.1.laid in
    never (laid.size, (laid.free.words, laid.free.chain))
