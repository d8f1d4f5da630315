-- A call of the small database over a draft: it answers the image, and its bytes are put at the end.
use Rattle.std.proofs.Common.{◌≡◌, ◌≢◌, ◌≤◌, ◌∙◌, ℕ, Bool, true, false, cond, not, nat_lt, Option, Some, None, IfSome, IsOk, List, [], ◌∷◌, ◌++◌, append-nil, length, take, refl, sym, ap, arith}
use Rattle.std.specs.Prelude.{◌==◌, Result, Ok, Err}
use Rattle.std.specs.Option.{option_map}
use Rattle.std.proofs.lemmas.Bool.{ne_eqb}
use Rattle.std.proofs.lemmas.Bool.Decides.{nat_tests}
use Rattle.std.proofs.lemmas.Grind.{common_steps}
use Rattle.std.proofs.lemmas.List.{take_all}
use Rattle.ubik_types.specs.declared.images.Change.TheVariants.{Put}
use Rattle.ubik_types.specs.Image.{changed}
use Rattle.db_image.specs.declared.draft_services.CallEnd.TheVariants as end
use Rattle.db_image.specs.declared.faults.RecordFault.{RecordFault}
use Rattle.db_image.specs.declared.faults.RecordFault.TheVariants as fault
use Rattle.db_image.specs.declared.images.ReadEnd.{ReadEnd}
use Rattle.db_image.specs.declared.images.ReadEnd.TheVariants as ends
use Rattle.db_image.specs.Ends.{EndsBy}
use Rattle.node_sessions.specs.Appending.{appended, appending}

-- bytes that are put at the end of an image
pub put_at_end : (image call : List ℕ) → changed image (Put (length image) call) ≡ image ++ call
put_at_end image call = grind (arith, common_steps)

-- where nothing is put, all stays
pub put_nothing : (old mid new : Option (List ℕ)) (len at : ℕ) (call : List ℕ) → length call ≡ 0 → IfSome old (λ image. length image ≡ len) → at ≡ len
    → mid ≡ old → new ≡ option_map (λ image. changed image (Put at call)) mid → new ≡ old
put_nothing None mid new len at call none is last same put = put ∙ ap (option_map (λ i. changed i (Put at call))) same
put_nothing (Some image) mid new len at [] none is last same put =
    put ∙ ap (option_map (λ i. changed i (Put at []))) same ∙ ap (λ (n : ℕ). Some (changed image (Put n []))) (last ∙ sym is)
    ∙ ap Some (put_at_end image [] ∙ append-nil image)
put_nothing (Some image) mid new len at (first ∷ bytes) none is last same put = absurd cc

-- a read whose end is no fault is done
pub read_done : (ended : ReadEnd) (r : Result (Unit {0}) RecordFault) → IsOk r → (ended ≡ ends.DiskFault → r ≡ Err fault.DiskFault)
    → (ended ≡ ends.NoMemory → r ≡ Err fault.NoMemory) → ended ≡ ends.Done
read_done ends.Done r ok failed memory = refl
read_done ends.DiskFault (Ok done) ok failed memory = let is = failed refl in absurd cc
read_done ends.DiskFault (Err f) ok failed memory = absurd cc
read_done ends.NoMemory (Ok done) ok failed memory = let is = memory refl in absurd cc
read_done ends.NoMemory (Err f) ok failed memory = absurd cc

-- what was read is answered, and the call put behind it
pub appends : (old mid new : Option (List ℕ)) (len count at : ℕ) (call answer : List ℕ) → length call ≤ 2097152 → len ≤ 1048576
    → IfSome old (λ image. length image ≡ len) → IfSome old (λ image. answer ≡ take count image) → count ≡ len
    → mid ≡ old → new ≡ option_map (λ image. changed image (Put at call)) mid → at ≡ len
    → IfSome old (λ image. EndsBy (appended image call) (end.Done answer) new)
appends None mid new len count at call answer short few is read whole same put last = tt
appends (Some image) mid new len count at call answer short few is read whole same put last =
    let call_fits : nat_lt 2097152 (length call) ≡ false = grind (arith, nat_tests) in
    let image_fits : nat_lt 1048576 (length image) ≡ false = grind (arith, nat_tests) in
    let all : take count image ≡ image = take_all count image (omega (arith, is, whole)) in
    rw (call_fits, image_fits) (
      ap end.Done (read ∙ all),
      put ∙ ap (option_map (λ i. changed i (Put at call))) same ∙ ap (λ (n : ℕ). Some (changed image (Put n call))) (last ∙ sym is)
          ∙ ap Some (put_at_end image call),
    )

-- bytes that are a call, and whether they write
pub is_call : (call : List ℕ) → length call ≤ 2097152 → appending.database.writes call ≡ Some (not (length call == 0))
is_call call short =
    let fits : nat_lt 2097152 (length call) ≡ false = grind (arith, nat_tests) in
    ap (λ (b : Bool). cond b None (Some (not (length call == 0)))) fits

-- a call that does not write has no bytes
pub no_bytes : (call : List ℕ) → Some (not (length call == 0)) ≢ Some true → length call ≡ 0
no_bytes [] reads = refl
no_bytes (first ∷ bytes) reads =
    let none : (length (first ∷ bytes) == 0) ≡ false = ne_eqb (length (first ∷ bytes)) 0 (λ none. omega arith) in
    absurd (reads (ap (λ (b : Bool). Some (not b)) none))
