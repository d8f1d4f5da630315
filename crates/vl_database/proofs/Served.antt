-- What the service answers is what was decided of the call.
use Rattle.std.proofs.Common.{◌≡◌, ℕ, ◌<◌, ◌^◌, Bool, true, false, cond, List, Option, Some, None, IfSome, Result, Ok, Err, IfOk, refl, sym, ap, subst, ◌∙◌, arith}
use Rattle.std.specs.Prelude.{nat_lt}
use Rattle.std.specs.List.{list_all}
use Rattle.std.specs.Option.{option_map}
use Rattle.std.proofs.lemmas.Bool.{and_from, lt-ltb}
use Rattle.call_grammar.proofs.Fitting.{bytes_fit}
use Rattle.call_grammar.specs.Laws.{IsBytes}
use Rattle.db_image.specs.Ends.{EndsBy, end_of}
use Rattle.db_image.specs.declared.draft_services.CallEnd.{CallEnd}
use Rattle.db_image.specs.declared.draft_services.CallEnd.TheVariants as end
use Rattle.db_image.proofs.Decided.{ends_by}
use Rattle.vl_calls.specs.declared.calls.VlCall.{VlCall}
use Rattle.vl_calls.specs.Calls.{call_kind}
use Rattle.vl_calls.specs.Reading.{call_of}
use Rattle.vl_calls.specs.Writes.{is_write}
use Rattle.vldb_entries.specs.Location.{Location}
use Rattle.vldb_entries.specs.Forms.{whole}
use Rattle.vldb_records.specs.Records.{Holds}
use Rattle.vl_service.specs.Meaning.{Verdict, asked, reply_by, told, verdict}
use Rattle.vl_service.specs.Standing.{IsDone, image_by}
use Rattle.vl_service.specs.Told.{location_in}
use Rattle.vl_database.specs.Judged.{IsLook, image_same}
use Rattle.vl_database.specs.Service.{moment_word, vl_database}
use Rattle.vl_service.proofs.ToldLocations.{location_told}

-- ---- calls that only read

pub looked : (bytes after : Option (List ℕ)) (v : Location → Verdict) (ended : CallEnd) → after ≡ bytes → ((s : Location) → IsLook (v s))
    → IfSome bytes (λ image. (s : Location) → Holds image s → ended ≡ end_of (reply_by (v s)))
    → IfSome bytes (λ image. (s : Location) → Holds image s → IsDone (v s) s image ended after)
looked None after v ended same look told = tt
looked (Some image) after v ended same look told = λ s holds. record {
  reply = told s holds;
  leaves = same ∙ ap Some (sym (image_same (v s) s image (look s)));
}

pub look_ok : {E : Type 0} (r : Result CallEnd E) (bytes after : Option (List ℕ)) (v w : Location → Verdict) → after ≡ bytes
    → ((s : Location) → IsLook (v s))
    → ((s : Location) → w s ≡ v s)
    → IfOk r (λ ended. IfSome bytes (λ image. (s : Location) → Holds image s → ended ≡ end_of (reply_by (v s))))
    → IfOk r (λ ended. IfSome bytes (λ image. (s : Location) → Holds image s → IsDone (w s) s image ended after))
look_ok (Err fault) bytes after v w same look is told = tt
look_ok (Ok ended) None after v w same look is told = tt
look_ok (Ok ended) (Some image) after v w same look is told = λ s holds.
    subst (λ (x : Verdict). IsDone x s image ended after) (sym (is s)) (looked (Some image) after v ended same look told s holds)

-- a call that writes is none that only reads
pub no_reader : (asked_for p : VlCall) → asked_for ≡ p → is_write (call_kind p) ≡ true → is_write (call_kind asked_for) ≡ false → ⊥
no_reader asked_for p is writes reads = let same = ap (λ (c : VlCall). is_write (call_kind c)) is in cc

-- ---- the call that bytes are

pub asked_is : (now : ℕ) (bytes : List ℕ) → now < 2 ^ 32 → IsBytes bytes → asked now bytes ≡ call_of bytes
asked_is now bytes low are =
    ap (λ (b : Bool). cond b (call_of bytes) None)
    (and_from (nat_lt now 4294967296) (list_all (λ x. nat_lt x 256) bytes) (lt-ltb now 4294967296 (omega (arith, low)))
    (bytes_fit bytes are))

-- whether it writes
pub writes_as : (bytes : List ℕ) (o : Option VlCall) → IsBytes bytes → o ≡ call_of bytes
    → vl_database.writes bytes ≡ option_map is_write (option_map call_kind o)
writes_as bytes o are is =
    ap (λ (x : Option VlCall). option_map is_write (option_map call_kind x)) (asked_is 0 bytes (omega arith) are ∙ sym is)

pub no_call_done : (bytes : Option (List ℕ)) (now : ℕ) (o : Option VlCall) → o ≡ None
    → IfSome bytes (λ image. (s : Location) → Holds image s → IsDone (verdict s now o) s image end.Malformed bytes)
unfolding verdict
no_call_done None now o none = tt
no_call_done (Some image) now o none = λ s holds.
    subst (λ (x : Option VlCall). IsDone (verdict s now x) s image end.Malformed (Some image)) (sym none)
    (record { reply = refl; leaves = refl })

pub call_done : (bytes after : Option (List ℕ)) (now : ℕ) (o p : Option VlCall) (ended : CallEnd) → o ≡ p
    → IfSome bytes (λ image. (s : Location) → Holds image s → IsDone (verdict s now p) s image ended after)
    → IfSome bytes (λ image. (s : Location) → Holds image s → IsDone (verdict s now o) s image ended after)
call_done bytes after now o p ended same done =
    subst (λ (x : Option VlCall). IfSome bytes (λ image. (s : Location) → Holds image s → IsDone (verdict s now x) s image ended after))
    (sym same) done

-- ---- the service

moment_is : (now : ℕ) → now < 2 ^ 32 → moment_word now ≡ now
moment_is now low = ap (λ (b : Bool). cond b now 0) (lt-ltb now 4294967296 (omega (arith, low)))

abbrev EndsAt : (image bytes : List ℕ) → CallEnd → Option (List ℕ) → (now : ℕ) → Location → Type 0
EndsAt image bytes ended after now s =
    let c = asked now bytes in EndsBy
    (record { reply = reply_by (verdict s now c); image = image_by (verdict s now c) s image }) ended after

pub meant : (held after : Option (List ℕ)) (now : ℕ) (bytes : List ℕ) (ended : CallEnd) → now < 2 ^ 32
    → IfSome held (λ image. (s : Location) → Holds image s → IsDone (verdict s now (asked now bytes)) s image ended after)
    → IfSome held (λ image. (s : Location) → Holds image s → EndsBy (vl_database.call image now bytes) ended after)
meant None after now bytes ended low done = tt
meant (Some image) after now bytes ended low done = λ s holds.
    let d = done s holds in
    let c = asked now bytes in
    subst (λ (moment : ℕ). EndsAt image bytes ended after moment (location_in (whole image))) (sym (moment_is now low))
    (subst (EndsAt image bytes ended after now) (location_told image s holds)
    (ends_by (record { reply = reply_by (verdict s now c); image = image_by (verdict s now c) s image }) ended after d.reply d.leaves))
