use Rattle.std.proofs.Common.{◌≡◌, ◌+◌, ◌∙◌, ℕ, List, length, Option, Some, IfSome, ap, refl, subst, sym, arith}
use Rattle.std.proofs.lemmas.Bool.{false≢true}
use Rattle.std.specs.Option.{option_map}
use Rattle.std.specs.Result.{is_err}
use Rattle.disk_base.specs.declared.disks.FileNo.TheVariants.{Database}
use Rattle.disk_base.specs.Files.{Files}
use Rattle.disk_base.specs.Crash.{OnlyIn}
use Rattle.disk_base.proofs.Runs.{widened, joined, others_joined}
use Rattle.page_file.specs.Pages.{Known, Agrees, AgreesIn, image_of}
use Rattle.ubik_types.specs.declared.images.Change.{Change}
use Rattle.ubik_types.specs.declared.versions.Version.{Version}
use Rattle.ubik_store.specs.Moments.{MayRedo, with_database, head_calls, with_head, applied, labelled, finished}
use Rattle.ubik_store.specs.Redo.{IsSeamless}
use Rattle.ubik_store.proofs.Applied.{calls_of, calls_joined, calls_as}
use Rattle.ubik_store.proofs.Ending.{agrees_headed, finished_files, ended_files, log_there, stands_by_log, settled_end, run_ended, LeavesEffect}
use Rattle.ubik_store.proofs.Heads.{rises_joined, few_more}
use Rattle.ubik_store.proofs.Plain.{LeavesPlain, plain_by_log, run_plain}
use Rattle.ubik_store.proofs.Redoing.{narrowed}
use Rattle.ubik_store.proofs.Telling.{told, of_told}
use Rattle.ubik_store.proofs.redo.redo.Goals as goal

pub returns-in_err-put_head-clause-moments : goal.returns-in_err-put_head-clause-moments
returns-in_err-put_head-clause-moments g c =
    told _ (LeavesEffect g.D.Disk c.args.disk.now c.put_head.new.disk c.args.v c.args.changes.now) (λ fs is cs leads before.
    let one = c.put_head.ensures.redo fs cs before in
    widened g.D.Disk.steps g.D.Disk.left_since _ _ (MayRedo fs cs) _ (stands_by_log fs cs c.args.changes.now c.args.v leads) one)

pub apply_all-requires-clause-agrees : goal.apply_all-requires-clause-agrees
apply_all-requires-clause-agrees g c = agrees_headed _ _ _ c.requires.agrees c.in_ok-put_head.ensures.files

pub returns-in_err-apply_all-clause-moments : goal.returns-in_err-apply_all-clause-moments
returns-in_err-apply_all-clause-moments g c =
    told _ (LeavesEffect g.D.Disk c.args.disk.now c.apply_all.new.disk c.args.v c.args.changes.now) (λ fs is cs leads before.
    let one = c.put_head.ensures.redo fs cs before in
    let two = joined g.D.Disk.steps g.D.Disk.left_since _ _ _ (MayRedo fs cs) one
    (c.apply_all.ensures.redo fs cs leads.covered (narrowed g.D.Disk one)) in
    widened g.D.Disk.steps g.D.Disk.left_since _ _ (MayRedo fs cs) _ (stands_by_log fs cs c.args.changes.now c.args.v leads) two)

pub returns-in_err-apply_all-clause-calls : goal.returns-in_err-apply_all-clause-calls
returns-in_err-apply_all-clause-calls g c =
    calls_as (omega arith) (λ _. cc) (λ _. ap is_err c.in_err-apply_all.was)
    (calls_joined (calls_of c.in_ok-put_head.ensures.changes) false≢true (calls_of c.apply_all.ensures.changes))

pub returns-in_err-put_label-clause-moments : goal.returns-in_err-put_label-clause-moments
returns-in_err-put_label-clause-moments g c =
    told _ (LeavesEffect g.D.Disk c.args.disk.now c.put_label.new.disk c.args.v c.args.changes.now) (λ fs is cs leads before.
    let one = c.put_head.ensures.redo fs cs before in
    let two = joined g.D.Disk.steps g.D.Disk.left_since _ _ _ (MayRedo fs cs) one
    (c.apply_all.ensures.redo fs cs leads.covered (narrowed g.D.Disk one)) in
    let three = joined g.D.Disk.steps g.D.Disk.left_since _ _ _ (MayRedo fs cs) two
    (c.put_label.ensures.redo fs cs (narrowed g.D.Disk two)) in
    widened g.D.Disk.steps g.D.Disk.left_since _ _ (MayRedo fs cs) _ (stands_by_log fs cs c.args.changes.now c.args.v leads) three)

pub returns-in_err-put_label-clause-calls : goal.returns-in_err-put_label-clause-calls
returns-in_err-put_label-clause-calls g c =
    calls_as (omega arith) (λ _. cc) (λ _. ap is_err c.in_err-put_label.was)
    (calls_joined (calls_joined (calls_of c.in_ok-put_head.ensures.changes) false≢true (calls_of c.in_ok-apply_all.ensures.changes))
    false≢true (calls_of c.put_label.ensures.changes))

pub end_log-requires-clause-header : goal.end_log-requires-clause-header
end_log-requires-clause-header g c =
    log_there 4 (finished c.args.changes.now c.args.v) _ _
    (finished_files c.args.changes.now c.args.v _ _ _ _ c.in_ok-put_head.ensures.files c.in_ok-apply_all.ensures.files
    c.in_ok-put_label.ensures.files)
    c.requires.header

-- how long the image is, by the pages
seamless_of : (len : ℕ) (files : Option Files) (fs : Files) (pages : Known) (changes : List Change) → pages.len ≡ len
    → AgreesIn pages files → files ≡ Some fs → IsSeamless len changes → IsSeamless (length (image_of fs.database)) changes
seamless_of len files fs pages changes same agrees is seamless =
    let at = of_told files fs (λ fs. Agrees pages fs.database) is agrees in
    subst (λ (n : ℕ). IsSeamless n changes) (sym same ∙ at.len) seamless

labelled_only : (v : Version) (changes : List Change) (files : Option Files) (fs : Files) (left : Files → Type 0)
    → files ≡ Some (with_database (λ xs. applied changes (with_head xs)) fs)
    → IfSome files (λ x. OnlyIn Database (labelled v x.database) left) → OnlyIn Database (finished changes v fs.database) left
labelled_only v changes files fs left is only =
    of_told files (with_database (λ xs. applied changes (with_head xs)) fs) (λ x. OnlyIn Database (labelled v x.database) left) is only

-- the files after the changes, and after the label
two_files : (changes : List Change) (old one two : Option Files) (fs : Files) → old ≡ Some fs
    → one ≡ option_map (with_database with_head) old → two ≡ option_map (with_database (applied changes)) one
    → two ≡ Some (with_database (λ xs. applied changes (with_head xs)) fs)
two_files changes old one two fs is a b =
    b ∙ ap (option_map (with_database (applied changes))) (a ∙ ap (option_map (with_database with_head)) is)

pub returns-in_err-end_log-clause-moments : goal.returns-in_err-end_log-clause-moments
returns-in_err-end_log-clause-moments g c =
    told _ (LeavesEffect g.D.Disk c.args.disk.now c.end_log.new.disk c.args.v c.args.changes.now) (λ fs is cs leads before.
    let one = c.put_head.ensures.redo fs cs before in
    let two = joined g.D.Disk.steps g.D.Disk.left_since _ _ _ (MayRedo fs cs) one
    (c.apply_all.ensures.redo fs cs leads.covered (narrowed g.D.Disk one)) in
    let three = joined g.D.Disk.steps g.D.Disk.left_since _ _ _ (MayRedo fs cs) two
    (c.put_label.ensures.redo fs cs (narrowed g.D.Disk two)) in
    let mid = two_files c.args.changes.now _ _ _ fs is c.in_ok-put_head.ensures.files c.in_ok-apply_all.ensures.files in
    run_ended g.D.Disk fs cs c.args.changes.now c.args.v leads c.requires.version
    (seamless_of _ _ fs _ _ refl c.requires.agrees is c.requires.seamless) three
    (c.in_ok-put_label.ensures.files ∙ ap (option_map (with_database (labelled c.args.v))) mid)
    (labelled_only c.args.v c.args.changes.now _ fs _ mid c.in_ok-put_label.ensures.durable)
    c.end_log.ensures.moments)

pub returns-clause-moments : goal.returns-clause-moments
returns-clause-moments g c =
    told _ (LeavesEffect g.D.Disk c.args.disk.now c.end_log.new.disk c.args.v c.args.changes.now) (λ fs is cs leads before.
    let one = c.put_head.ensures.redo fs cs before in
    let two = joined g.D.Disk.steps g.D.Disk.left_since _ _ _ (MayRedo fs cs) one
    (c.apply_all.ensures.redo fs cs leads.covered (narrowed g.D.Disk one)) in
    let three = joined g.D.Disk.steps g.D.Disk.left_since _ _ _ (MayRedo fs cs) two
    (c.put_label.ensures.redo fs cs (narrowed g.D.Disk two)) in
    let mid = two_files c.args.changes.now _ _ _ fs is c.in_ok-put_head.ensures.files c.in_ok-apply_all.ensures.files in
    run_ended g.D.Disk fs cs c.args.changes.now c.args.v leads c.requires.version
    (seamless_of _ _ fs _ _ refl c.requires.agrees is c.requires.seamless) three
    (c.in_ok-put_label.ensures.files ∙ ap (option_map (with_database (labelled c.args.v))) mid)
    (labelled_only c.args.v c.args.changes.now _ fs _ mid c.in_ok-put_label.ensures.durable)
    c.end_log.ensures.moments)

pub returns-in_err-end_log-clause-calls : goal.returns-in_err-end_log-clause-calls
returns-in_err-end_log-clause-calls g c =
    calls_as (omega arith) (λ _. cc) (λ _. ap is_err c.in_err-end_log.was)
    (calls_joined (calls_joined
    (calls_joined (calls_of c.in_ok-put_head.ensures.changes) false≢true (calls_of c.in_ok-apply_all.ensures.changes)) false≢true
    (calls_of c.in_ok-put_label.ensures.changes)) false≢true (calls_of c.end_log.ensures.changes))

pub returns-clause-calls : goal.returns-clause-calls
returns-clause-calls g c =
    calls_as (omega arith) (λ failed. absurd (false≢true failed)) (λ failed. absurd (false≢true failed))
    (calls_joined (calls_joined
    (calls_joined (calls_of c.in_ok-put_head.ensures.changes) false≢true (calls_of c.in_ok-apply_all.ensures.changes)) false≢true
    (calls_of c.in_ok-put_label.ensures.changes)) false≢true (calls_of c.in_ok-end_log.ensures.changes))

pub returns-clause-files : goal.returns-clause-files
returns-clause-files g c =
    ended_files c.args.changes.now c.args.v _ _ _
    (finished_files c.args.changes.now c.args.v _ _ _ _ c.in_ok-put_head.ensures.files c.in_ok-apply_all.ensures.files
    c.in_ok-put_label.ensures.files)
    c.in_ok-end_log.ensures.files

pub returns-clause-settled : goal.returns-clause-settled
returns-clause-settled g c = λ settled.
    let others = others_joined Database _ _ _
    (others_joined Database _ _ _ c.put_head.ensures.changes.others c.apply_all.ensures.changes.others)
    c.put_label.ensures.changes.others in
    settled_end c.args.changes.now c.args.v _ _ _ (g.D.Disk.may_leave c.args.disk.now) (g.D.Disk.may_leave c.put_label.new.disk)
    (g.D.Disk.may_leave c.end_log.new.disk) settled
    (finished_files c.args.changes.now c.args.v _ _ _ _ c.in_ok-put_head.ensures.files c.in_ok-apply_all.ensures.files
    c.in_ok-put_label.ensures.files)
    c.in_ok-end_log.ensures.files others
    (told _ (λ fs. OnlyIn Database (finished c.args.changes.now c.args.v fs.database) (g.D.Disk.may_leave c.put_label.new.disk)) (λ fs is.
    labelled_only c.args.v c.args.changes.now _ fs _
    (two_files c.args.changes.now _ _ _ fs is c.in_ok-put_head.ensures.files c.in_ok-apply_all.ensures.files)
    c.in_ok-put_label.ensures.durable))
    c.in_ok-end_log.ensures.changes.others
    c.in_ok-end_log.ensures.durable

pub returns-clause-steps : goal.returns-clause-steps
returns-clause-steps g c =
    told _ (λ fs. g.D.Disk.steps c.end_log.new.disk ≡ g.D.Disk.steps
    c.args.disk.now + (7 + length c.args.changes.now + head_calls fs.database)) (λ fs is.
    let head : g.D.Disk.steps c.put_head.new.disk ≡ g.D.Disk.steps c.args.disk.now + head_calls fs.database =
    of_told _ fs (λ fs. g.D.Disk.steps c.put_head.new.disk ≡ g.D.Disk.steps c.args.disk.now + head_calls fs.database) is
    c.in_ok-put_head.ensures.steps in
    omega (arith, head, c.in_ok-apply_all.ensures.steps, c.in_ok-put_label.ensures.steps, c.in_ok-end_log.ensures.steps))

pub returns-in_err-put_head-clause-plain : goal.returns-in_err-put_head-clause-plain
returns-in_err-put_head-clause-plain g c =
    told _ (LeavesPlain g.D.Disk c.args.disk.now c.put_head.new.disk c.args.v c.args.changes.now) (λ fs is cs leads plain before.
    let one = c.put_head.ensures.redo fs cs before in
    widened g.D.Disk.steps g.D.Disk.left_since _ _ (MayRedo fs cs) _ (plain_by_log fs cs c.args.changes.now c.args.v leads plain) one)

pub returns-in_err-apply_all-clause-plain : goal.returns-in_err-apply_all-clause-plain
returns-in_err-apply_all-clause-plain g c =
    told _ (LeavesPlain g.D.Disk c.args.disk.now c.apply_all.new.disk c.args.v c.args.changes.now) (λ fs is cs leads plain before.
    let one = c.put_head.ensures.redo fs cs before in
    let two = joined g.D.Disk.steps g.D.Disk.left_since _ _ _ (MayRedo fs cs) one
    (c.apply_all.ensures.redo fs cs leads.covered (narrowed g.D.Disk one)) in
    widened g.D.Disk.steps g.D.Disk.left_since _ _ (MayRedo fs cs) _ (plain_by_log fs cs c.args.changes.now c.args.v leads plain) two)

pub returns-in_err-put_label-clause-plain : goal.returns-in_err-put_label-clause-plain
returns-in_err-put_label-clause-plain g c =
    told _ (LeavesPlain g.D.Disk c.args.disk.now c.put_label.new.disk c.args.v c.args.changes.now) (λ fs is cs leads plain before.
    let one = c.put_head.ensures.redo fs cs before in
    let two = joined g.D.Disk.steps g.D.Disk.left_since _ _ _ (MayRedo fs cs) one
    (c.apply_all.ensures.redo fs cs leads.covered (narrowed g.D.Disk one)) in
    let three = joined g.D.Disk.steps g.D.Disk.left_since _ _ _ (MayRedo fs cs) two
    (c.put_label.ensures.redo fs cs (narrowed g.D.Disk two)) in
    widened g.D.Disk.steps g.D.Disk.left_since _ _ (MayRedo fs cs) _ (plain_by_log fs cs c.args.changes.now c.args.v leads plain) three)

pub returns-in_err-end_log-clause-plain : goal.returns-in_err-end_log-clause-plain
returns-in_err-end_log-clause-plain g c =
    told _ (LeavesPlain g.D.Disk c.args.disk.now c.end_log.new.disk c.args.v c.args.changes.now) (λ fs is cs leads plain before.
    let one = c.put_head.ensures.redo fs cs before in
    let two = joined g.D.Disk.steps g.D.Disk.left_since _ _ _ (MayRedo fs cs) one
    (c.apply_all.ensures.redo fs cs leads.covered (narrowed g.D.Disk one)) in
    let three = joined g.D.Disk.steps g.D.Disk.left_since _ _ _ (MayRedo fs cs) two
    (c.put_label.ensures.redo fs cs (narrowed g.D.Disk two)) in
    let mid = two_files c.args.changes.now _ _ _ fs is c.in_ok-put_head.ensures.files c.in_ok-apply_all.ensures.files in
    run_plain fs cs c.args.changes.now c.args.v leads plain g.D.Disk c.requires.version three
    (c.in_ok-put_label.ensures.files ∙ ap (option_map (with_database (labelled c.args.v))) mid)
    (labelled_only c.args.v c.args.changes.now _ fs _ mid c.in_ok-put_label.ensures.durable)
    c.end_log.ensures.moments)

pub returns-clause-plain : goal.returns-clause-plain
returns-clause-plain g c =
    told _ (LeavesPlain g.D.Disk c.args.disk.now c.end_log.new.disk c.args.v c.args.changes.now) (λ fs is cs leads plain before.
    let one = c.put_head.ensures.redo fs cs before in
    let two = joined g.D.Disk.steps g.D.Disk.left_since _ _ _ (MayRedo fs cs) one
    (c.apply_all.ensures.redo fs cs leads.covered (narrowed g.D.Disk one)) in
    let three = joined g.D.Disk.steps g.D.Disk.left_since _ _ _ (MayRedo fs cs) two
    (c.put_label.ensures.redo fs cs (narrowed g.D.Disk two)) in
    let mid = two_files c.args.changes.now _ _ _ fs is c.in_ok-put_head.ensures.files c.in_ok-apply_all.ensures.files in
    run_plain fs cs c.args.changes.now c.args.v leads plain g.D.Disk c.requires.version three
    (c.in_ok-put_label.ensures.files ∙ ap (option_map (with_database (labelled c.args.v))) mid)
    (labelled_only c.args.v c.args.changes.now _ fs _ mid c.in_ok-put_label.ensures.durable)
    c.end_log.ensures.moments)

pub returns-in_err-put_head-clause-few : goal.returns-in_err-put_head-clause-few
returns-in_err-put_head-clause-few g c =
    let old = c.args.disk.now in
    let one = c.put_head.new.disk in
    few_more g.D.Disk (7 + length c.args.changes.now) 0 old one one c.put_head.ensures.few (omega arith, omega arith) (omega arith)

pub returns-in_err-apply_all-clause-few : goal.returns-in_err-apply_all-clause-few
returns-in_err-apply_all-clause-few g c =
    let long = length c.args.changes.now in
    few_more g.D.Disk (7 + long) long c.args.disk.now c.put_head.new.disk c.apply_all.new.disk c.put_head.ensures.few
    c.apply_all.ensures.changes.at_most (omega arith)

pub returns-in_err-put_label-clause-few : goal.returns-in_err-put_label-clause-few
returns-in_err-put_label-clause-few g c =
    let long = length c.args.changes.now in
    let one = c.put_head.new.disk in
    let two = c.apply_all.new.disk in
    let three = c.put_label.new.disk in
    few_more g.D.Disk (7 + long) (long + 3) c.args.disk.now one three c.put_head.ensures.few
    (rises_joined g.D.Disk long 3 one two three c.apply_all.ensures.changes.at_most c.put_label.ensures.changes.at_most) (omega arith)

pub returns-in_err-end_log-clause-few : goal.returns-in_err-end_log-clause-few
returns-in_err-end_log-clause-few g c =
    let long = length c.args.changes.now in
    let one = c.put_head.new.disk in
    let two = c.apply_all.new.disk in
    let three = c.put_label.new.disk in
    let four = c.end_log.new.disk in
    few_more g.D.Disk (7 + long) (long + 3 + 4) c.args.disk.now one four c.put_head.ensures.few
    (rises_joined g.D.Disk (long + 3) 4 one three four
    (rises_joined g.D.Disk long 3 one two three c.apply_all.ensures.changes.at_most c.put_label.ensures.changes.at_most)
    c.end_log.ensures.changes.at_most) (omega arith)

pub returns-clause-few : goal.returns-clause-few
returns-clause-few g c =
    let long = length c.args.changes.now in
    let one = c.put_head.new.disk in
    let two = c.apply_all.new.disk in
    let three = c.put_label.new.disk in
    let four = c.end_log.new.disk in
    few_more g.D.Disk (7 + long) (long + 3 + 4) c.args.disk.now one four c.put_head.ensures.few
    (rises_joined g.D.Disk (long + 3) 4 one three four
    (rises_joined g.D.Disk long 3 one two three c.apply_all.ensures.changes.at_most c.put_label.ensures.changes.at_most)
    c.end_log.ensures.changes.at_most) (omega arith)
