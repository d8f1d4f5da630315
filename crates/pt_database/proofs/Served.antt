-- What the service answers is what was decided of the call.
use Rattle.std.proofs.Common.{◌≡◌, ℕ, Bool, true, false, cond, List, Option, Some, None, IfSome, Result, Ok, Err, IfOk, refl, sym, ap, subst, ◌∙◌}
use Rattle.std.specs.Option.{option_map}
use Rattle.call_grammar.proofs.Fitting.{bytes_fit}
use Rattle.call_grammar.specs.Laws.{IsBytes}
use Rattle.db_image.specs.Ends.{EndsBy}
use Rattle.db_image.specs.declared.draft_services.CallEnd.{CallEnd}
use Rattle.db_image.specs.declared.draft_services.CallEnd.TheVariants as end
use Rattle.db_image.specs.declared.faults.RecordFault.{RecordFault}
use Rattle.db_image.proofs.Decided.{ends_by}
use Rattle.prdb_layout.specs.Registry.{Registry}
use Rattle.pt_calls.specs.declared.calls.PtCall.{PtCall}
use Rattle.pt_calls.specs.Calls.{call_kind}
use Rattle.pt_calls.specs.Reading.{call_of}
use Rattle.pt_calls.specs.Writes.{is_write}
use Rattle.pt_service.specs.Meaning.{Answers, Enter, Join, Leave, Makes, Maxima, NoCall, Part, Refit, Refuses, Turn, Verdict, asked, reply_by, verdict}
use Rattle.pt_service.specs.Standing as registry
use Rattle.pt_service.specs.State.{State}
use Rattle.pt_service.specs.Told.{IsMeant}
use Rattle.pt_looks.specs.States.{HoldsRecords, HoldsState, IsToldOf, members_of}
use Rattle.pt_changes.specs.Standing.{IsDone, IsMeantOf, image_by}
use Rattle.pt_database.specs.Service.{protection_database}
use Rattle.pt_laws.proofs.Changing.{IsLook, IsPlain, image_same}
use Rattle.pt_laws.proofs.ToldStates.{state_told}

-- ---- calls that only look

-- the call is this one
as_asked : (bytes after : Option (List ℕ)) (call p : PtCall) (ended : CallEnd) → call ≡ p
    → IsMeantOf bytes (λ s. verdict s (Some p)) ended after
    → IsMeantOf bytes (λ s. verdict s (Some call)) ended after
as_asked bytes after call p ended is done = subst (λ (q : PtCall). IsMeantOf bytes (λ s. verdict s (Some q)) ended after) (sym is) done

looked : (bytes after : Option (List ℕ)) (v : State → Verdict) (ended : CallEnd) → after ≡ bytes → ((s : State) → IsLook (v s))
    → IsToldOf bytes v ended → IsMeantOf bytes v ended after
looked None after v ended same look told = tt
looked (Some image) after v ended same look told = λ s holds. record {
  reply = told s holds;
  leaves = same ∙ ap Some (sym (image_same (v s) s image (look s)));
}

pub look_ok : (r : Result CallEnd RecordFault) (bytes after : Option (List ℕ)) (call p : PtCall) → call ≡ p → after ≡ bytes
    → ((s : State) → IsLook (verdict s (Some p))) → IfOk r (IsToldOf bytes (λ s. verdict s (Some p)))
    → IfOk r (λ ended. IsMeantOf bytes (λ s. verdict s (Some call)) ended after)
look_ok (Err fault) bytes after call p is same look told = tt
look_ok (Ok ended) bytes after call p is same look told =
    as_asked bytes after call p ended is (looked bytes after (λ s. verdict s (Some p)) ended same look told)

-- ---- calls that touch no pair

image_plain : (v : Verdict) (s : State) (image : List ℕ) → IsPlain v → registry.image_by v image ≡ Some (image_by v s image)
image_plain NoCall s image is = refl
image_plain (Refuses rule) s image is = refl
image_plain (Answers a) s image is = refl
image_plain (Makes a (Maxima user group)) s image is = refl
image_plain (Makes a (Enter e user group)) s image is = refl
image_plain (Makes a (Refit e)) s image is = refl
image_plain (Makes a (Leave id)) s image is = absurd is
image_plain (Makes a (Turn e name owner id user group)) s image is = absurd is
image_plain (Makes a (Join user group)) s image is = absurd is
image_plain (Makes a (Part user group)) s image is = absurd is

plain : (bytes after : Option (List ℕ)) (v : Registry → Verdict) (w : State → Verdict) (ended : CallEnd) → ((r : Registry) → IsPlain (v r))
    → ((s : State) → w s ≡ v s.registry) → IsMeant bytes v ended after → IsMeantOf bytes w ended after
plain None after v w ended kind of done = tt
plain (Some image) after v w ended kind of done = λ s holds.
    let d = done s.registry (members_of s) holds in
    subst (λ (x : Verdict). IsDone x s image ended after) (sym (of s))
    (record { reply = d.reply; leaves = d.leaves ∙ image_plain (v s.registry) s image (kind s.registry) })

pub plain_ok : (r : Result CallEnd RecordFault) (bytes after : Option (List ℕ)) (v : Registry → Verdict) (call p : PtCall) → call ≡ p
    → ((q : Registry) → IsPlain (v q)) → ((s : State) → verdict s (Some p) ≡ v s.registry) → IfOk r (λ ended. IsMeant bytes v ended after)
    → IfOk r (λ ended. IsMeantOf bytes (λ s. verdict s (Some call)) ended after)
plain_ok (Err fault) bytes after v call p is kind of done = tt
plain_ok (Ok ended) bytes after v call p is kind of done =
    as_asked bytes after call p ended is (plain bytes after v (λ s. verdict s (Some p)) ended kind of done)

-- ---- calls that change pairs, or let an entry leave or turn

pub change_ok : (r : Result CallEnd RecordFault) (bytes after : Option (List ℕ)) (call p : PtCall) → call ≡ p
    → IfOk r (λ ended. IsMeantOf bytes (λ s. verdict s (Some p)) ended after)
    → IfOk r (λ ended. IsMeantOf bytes (λ s. verdict s (Some call)) ended after)
change_ok (Err fault) bytes after call p is done = tt
change_ok (Ok ended) bytes after call p is done = as_asked bytes after call p ended is done

-- a call that writes is none that only reads
pub no_reader : (call p : PtCall) → call ≡ p → is_write (call_kind p) ≡ true → is_write (call_kind call) ≡ false → ⊥
no_reader call p is writes reads = let same = ap (λ (c : PtCall). is_write (call_kind c)) is in cc

-- ---- the call that bytes are

pub asked_is : (bytes : List ℕ) → IsBytes bytes → asked bytes ≡ call_of bytes
asked_is bytes are = ap (λ (b : Bool). cond b (call_of bytes) None) (bytes_fit bytes are)

-- whether it writes
pub writes_as : (bytes : List ℕ) (o : Option PtCall) → IsBytes bytes → o ≡ call_of bytes
    → protection_database.writes bytes ≡ option_map is_write (option_map call_kind o)
writes_as bytes o are is = ap (λ (x : Option PtCall). option_map is_write (option_map call_kind x)) (asked_is bytes are ∙ sym is)

pub no_call_done : (bytes : Option (List ℕ)) (o : Option PtCall) → o ≡ None → IsMeantOf bytes (λ s. verdict s o) end.Malformed bytes
unfolding verdict
no_call_done None o none = tt
no_call_done (Some image) o none = λ s holds.
    subst (λ (x : Option PtCall). IsDone (verdict s x) s image end.Malformed (Some image)) (sym none)
    (record { reply = refl; leaves = refl })

pub call_done : (bytes after : Option (List ℕ)) (o p : Option PtCall) (ended : CallEnd) → o ≡ p
    → IsMeantOf bytes (λ s. verdict s p) ended after → IsMeantOf bytes (λ s. verdict s o) ended after
call_done bytes after o p ended same done = subst (λ (x : Option PtCall). IsMeantOf bytes (λ s. verdict s x) ended after) (sym same) done

-- ---- the service

abbrev EndsIn : (image bytes : List ℕ) → CallEnd → Option (List ℕ) → State → Type 0
EndsIn image bytes ended after s =
    EndsBy (record { reply = reply_by (verdict s (asked bytes)); image = image_by (verdict s (asked bytes)) s image }) ended after

pub meant : (held after : Option (List ℕ)) (now : ℕ) (bytes : List ℕ) (ended : CallEnd)
    → IsMeantOf held (λ s. verdict s (asked bytes)) ended after
    → IfSome held (λ image. (s : State) → HoldsRecords image s → EndsBy (protection_database.call image now bytes) ended after)
meant None after now bytes ended done = tt
meant (Some image) after now bytes ended done = λ s holds.
    let d = done s holds in
    let v = verdict s (asked bytes) in
    subst (EndsIn image bytes ended after) (state_told image s holds)
    (ends_by (record { reply = reply_by v; image = image_by v s image }) ended after d.reply d.leaves)

-- an image that holds a state holds its records
pub state_meant : (held after : Option (List ℕ)) (now : ℕ) (bytes : List ℕ) (ended : CallEnd)
    → IfSome held (λ image. (s : State) → HoldsRecords image s → EndsBy (protection_database.call image now bytes) ended after)
    → IfSome held (λ image. (s : State) → HoldsState image s → EndsBy (protection_database.call image now bytes) ended after)
state_meant None after now bytes ended meant = tt
state_meant (Some image) after now bytes ended meant = λ s holds. meant s holds.records
