use Rattle.std.proofs.Common.{sym, refl, ◌∙◌, arith}
use Rattle.std.proofs.lemmas.Bool.{false≢true}
use Rattle.disk_base.proofs.Runs.{reads_as, reads_joined}
use Rattle.page_file.specs.Label.{IsHeadOf}
use Rattle.page_file.proofs.Opening.{moved, empty_version, found_version, refused_head, found_agrees}
use Rattle.page_file.proofs.pages.Pages.open.Goals as goal

pub returns-then-len-eq0-clause-version : goal.returns-then-len-eq0-clause-version
returns-then-len-eq0-clause-version g c = empty_version _ _ c.if-len-eq0.true c.in_ok-len.ensures.len

pub returns-in-Some-clause-version : goal.returns-in-Some-clause-version
returns-in-Some-clause-version g c =
    found_version _ _ _ _ (omega arith) c.in_ok-len.ensures.len
    (moved (λ fs. IsHeadOf c.in_ok-head.head fs.database) _ _ (c.in_ok-len.ensures.reads.files false≢true) c.in_ok-head.ensures.head)
    (sym c.in-Some.ensures.version)

pub returns-in-Some-clause-agrees : goal.returns-in-Some-clause-agrees
returns-in-Some-clause-agrees g c =
    found_agrees _ _ _ _ _ _ c.new-in-Some.ensures
    (c.in_ok-head.ensures.reads.files false≢true ∙ c.in_ok-len.ensures.reads.files false≢true) (c.in-Some.ensures.labelled refl)
    (c.in-Some.ensures.fits refl) c.in_ok-len.ensures.len
    (moved (λ fs. IsHeadOf c.in_ok-head.head fs.database) _ _ (c.in_ok-len.ensures.reads.files false≢true) c.in_ok-head.ensures.head)
    (sym c.in-Some.ensures.version)

pub returns-in-None-clause-refused : goal.returns-in-None-clause-refused
returns-in-None-clause-refused g c =
    refused_head _ _ _ (omega arith) c.in_ok-len.ensures.len
    (moved (λ fs. IsHeadOf c.in_ok-head.head fs.database) _ _ (c.in_ok-len.ensures.reads.files false≢true) c.in_ok-head.ensures.head)
    (sym c.version_of_file.ensures.version ∙ c.in-None.is)

pub returns-in-Some-clause-reads : goal.returns-in-Some-clause-reads
returns-in-Some-clause-reads g c =
    reads_as (λ failed. absurd (false≢true failed)) (λ failed. absurd cc)
    (reads_joined c.in_ok-len.ensures.reads false≢true c.in_ok-head.ensures.reads)

pub returns-in-None-clause-reads : goal.returns-in-None-clause-reads
returns-in-None-clause-reads g c =
    reads_as (λ failed. absurd (false≢true failed)) (λ failed. absurd cc)
    (reads_joined c.in_ok-len.ensures.reads false≢true c.in_ok-head.ensures.reads)
