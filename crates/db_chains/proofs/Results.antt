-- What is said of one answer, by what is said of another.
use Rattle.std.proofs.Common.{◌≡◌, ℕ, ◌+◌, ◌*◌, ◌≤◌, List, Option, Result, Ok, Err, IfErr, sym, ap, ◌∙◌, arith, ◌-◌, Some, None, subst}
use Rattle.std.specs.Prelude.{OnOk}
use Rattle.std.specs.Option.{option_map}
use Rattle.db_image.specs.Draft.{Drafted, put_cost}
use Rattle.db_image.specs.Images.{IsOfImage, ReadsAtMost}
use Rattle.db_image.specs.declared.faults.RecordFault.{RecordFault}
use Rattle.db_image.specs.declared.faults.RecordFault.TheVariants.{DiskFault, BadRecord, NoMemory}
use Rattle.db_image.specs.declared.images.ImageRead.{Ghosts}
use Rattle.db_image.proofs.ReadSteps.{reads_then, reads_within}
use Rattle.db_blocks.specs.Ends.{HasCause}
use Rattle.db_chains.specs.Ends.{DraftsAtMost, IsBadWhere, LooksAtMost}

pub err_same : {T U E : Type 0} (r : Result T E) (s : Result U E) (e f d : E) → r ≡ Err e → s ≡ Err f → f ≡ e → s ≡ Err d → r ≡ Err d
err_same {E = E} r s e f d one two same given =
    let inner : f ≡ d = cc in
    one ∙ ap (λ (x : E). Err x) (sym same ∙ inner)

pub ok_no_err : {T E : Type 0} (r : Result T E) (x : T) (d : E) → r ≡ Ok x → r ≡ Err d → ⊥
ok_no_err r x d is other = absurd cc

pub ok_so : {T E : Type 0} (r : Result T E) (A B : Type 0) → OnOk r A → (A → B) → OnOk r B
ok_so (Ok x) A B a then = then a
ok_so (Err e) A B a then = tt

pub err_so : {T E : Type 0} (r : Result T E) (P Q : E → Type 0) → IfErr r P → ((e : E) → P e → Q e) → IfErr r Q
err_so (Ok x) P Q p then = tt
err_so (Err e) P Q p then = then e p

pub of_image : (bytes : Option (List ℕ)) (bad : List ℕ → ℕ → Type 0) (fault : RecordFault) → IsOfImage fault → IsBadWhere bytes bad fault
of_image bytes bad DiskFault cause = tt
of_image bytes bad NoMemory cause = tt
of_image bytes bad (BadRecord at) cause = absurd cause

pub image_cause : (bytes : Option (List ℕ)) (fits : List ℕ → Type 0) (fault : RecordFault) → IsOfImage fault → HasCause bytes fits fault
image_cause bytes fits DiskFault cause = tt
image_cause bytes fits NoMemory cause = tt
image_cause bytes fits (BadRecord at) cause = absurd cause

-- ---- frames of changes

drafted : {I : Type 0} (g : Ghosts I) (most : ℕ) (a b : Drafted I) (failed : Type 0) → b.layout ≡ a.layout
    → ReadsAtMost g most a.image b.image failed
    → DraftsAtMost g most a b failed
drafted g most a b failed layout reads = record { drafts = record { layout = layout; reads = reads.reads }; cost = reads.asked }

-- a change after what only looked
pub drafts_on : {I : Type 0} (g : Ghosts I) (m n most : ℕ) (a b c : Drafted I) (first failed : Type 0) → LooksAtMost g m a b first
    → DraftsAtMost g n b c failed → m + n ≤ most → DraftsAtMost g most a c failed
drafts_on g m n most a b c first failed r s fits =
    let all = reads_then g m n most a.image b.image c.image first failed record { reads = r.looks.reads; asked = r.cost }
    record { reads = s.drafts.reads; asked = s.cost } fits in
    drafted g most a c failed (s.drafts.layout ∙ r.looks.same.layout) all

fits_twice : (b c a : ℕ) → b ≡ a → c ≡ a → b + c ≤ 2 * a
fits_twice b c a one two = omega arith

-- two puts behind a word that was read
pub two_puts : {I : Type 0} (g : Ghosts I) (m n : ℕ) (a b c d : Drafted I) (first second failed : Type 0) → LooksAtMost g 4 a b first
    → m ≡ 4 → n ≡ 4
    → c.layout ≡ b.layout → ReadsAtMost g (put_cost b.layout m) b.image c.image second
    → d.layout ≡ c.layout → ReadsAtMost g (put_cost c.layout n) c.image d.image failed
    → DraftsAtMost g (4 + 2 * put_cost a.layout 4) a d failed
two_puts g m n a b c d first second failed looks four_m four_n one puts two more =
    let layout = looks.looks.same.layout in
    let same_c : put_cost c.layout n ≡ put_cost a.layout 4 = ap (put_cost c.layout) four_n ∙ ap (λ l. put_cost l 4) (one ∙ layout) in
    let same_b : put_cost b.layout m ≡ put_cost a.layout 4 = ap (put_cost b.layout) four_m ∙ ap (λ l. put_cost l 4) layout in
    let both : ReadsAtMost g (2 * put_cost a.layout 4) b.image d.image failed =
    reads_then g (put_cost b.layout m) (put_cost c.layout n) (2 * put_cost a.layout 4) b.image c.image d.image second failed puts more
    (fits_twice (put_cost b.layout m) (put_cost c.layout n) (put_cost a.layout 4) same_b same_c) in
    let all : ReadsAtMost g (4 + 2 * put_cost a.layout 4) a.image d.image failed =
    reads_then g 4 (2 * put_cost a.layout 4) (4 + 2 * put_cost a.layout 4) a.image b.image d.image first failed record
    { reads = looks.looks.reads; asked = looks.cost } both (omega arith) in
    drafted g (4 + 2 * put_cost a.layout 4) a d failed (two ∙ one ∙ layout) all

fits_after : (m most b a : ℕ) → b ≡ a → m + (4 + 2 * a) ≤ most → m + (4 + 2 * b) ≤ most
fits_after m most b a same fits = omega arith

-- two puts behind a word that was read, after more was looked at
pub after_looks : {I : Type 0} (g : Ghosts I) (m most : ℕ) (a b c : Drafted I) (first failed : Type 0) → LooksAtMost g m a b first
    → DraftsAtMost g (4 + 2 * put_cost b.layout 4) b c failed → m + (4 + 2 * put_cost a.layout 4) ≤ most → DraftsAtMost g most a c failed
after_looks g m most a b c first failed r s fits =
    let same : put_cost b.layout 4 ≡ put_cost a.layout 4 = ap (λ l. put_cost l 4) r.looks.same.layout in
    drafts_on g m (4 + 2 * put_cost b.layout 4) most a b c first failed r s
    (fits_after m most (put_cost b.layout 4) (put_cost a.layout 4) same fits)

pub drafts_so : {I : Type 0} (g : Ghosts I) (most : ℕ) (a b : Drafted I) (failed now : Type 0) → DraftsAtMost g most a b failed
    → (now → failed)
    → DraftsAtMost g most a b now
drafts_so g most a b failed now r so =
    drafted g most a b now r.drafts.layout
    (reads_within g most most a.image b.image failed now record { reads = r.drafts.reads; asked = r.cost } (omega arith) so)

pub no_memory : {T : Type 0} (r : Result T RecordFault) (e : RecordFault) → r ≡ Err e → e ≡ NoMemory → r ≡ Err DiskFault → ⊥
no_memory r e is none other = absurd cc

pub cause_so : (a : Option (List ℕ)) (P Q : List ℕ → Type 0) (fault : RecordFault) → ((image : List ℕ) → P image → Q image)
    → HasCause a Q fault → HasCause a P fault
cause_so a P Q DiskFault so cause = tt
cause_so a P Q NoMemory so cause = tt
cause_so None P Q (BadRecord at) so cause = tt
cause_so (Some image) P Q (BadRecord at) so cause = λ is. cause (so image is)

pub cause_at : (a b : Option (List ℕ)) (f : List ℕ → List ℕ) (P Q : List ℕ → Type 0) (fault : RecordFault) → b ≡ option_map f a
    → ((image : List ℕ) → P image → Q (f image)) → HasCause b Q fault → HasCause a P fault
cause_at a b f P Q DiskFault made so cause = tt
cause_at a b f P Q NoMemory made so cause = tt
cause_at None b f P Q (BadRecord at) made so cause = tt
cause_at (Some image) b f P Q (BadRecord at) made so cause = λ is.
    subst (λ (o : Option (List ℕ)). HasCause o Q (BadRecord at)) made cause (so image is)
