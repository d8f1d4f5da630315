use Rattle.std.proofs.Common.{◌≡◌, ◌≤◌, ◌<◌, ◌+◌, ◌-◌, ◌*◌, ◌∙◌, ⊎_elim, ℕ, suc, min, max, length, take, drop, IfSome, arith, sym, subst, length-take, length-drop}
use Rattle.std.proofs.lemmas.Bool.Decides.{nat_tests}
use Rattle.std.proofs.lemmas.Bool.{false≢true}
use Rattle.disk_base.specs.Stops.{IsStopped}
use Rattle.disk_base.proofs.Runs.{reads_joined, reads_as}
use Rattle.page_file.specs.Kept.{IsKept, BringsPage}
use Rattle.page_file.specs.Pages.{image_of}
use Rattle.page_file.proofs.Reading.{range_read_to}
use Rattle.page_file.proofs.Bringing.{was_kept, stays_kept}
use Rattle.page_file.proofs.Parts.{page_in, part_begins, part_ends, here_or_before}
use Rattle.page_file.proofs.pages.Pages.read_range.Goals as goal

pub loop-page-preserved : goal.loop-page-preserved
loop-page-preserved g c =
    let i = c.loop-page.invariant in
    let done = c.in_ok-read_part.ensures in
    let page : ℕ = c.loop-page.page in
    let at : ℕ = c.args.at in
    let len : ℕ = length c.args.buf.now in
    let some : 0 < len = grind (arith, nat_tests, c.is_empty.ensures, c.if-is_empty.false) in
    let stands = page_in at len page some c.loop-page.auto.page c.loop-page-test.true in
    let begins = part_begins at (at + len) page c.max-from.result (omega arith) stands.0 c.max-from.ensures in
    let ends = part_ends at (at + len) page c.max-from.result c.min-until.result
    (omega arith) stands.0 stands.1 c.max-from.ensures c.min-until.ensures in
    let front = subst (λ (n : ℕ). IfSome (g.D.Disk.files c.loop-page.disk)
    (λ fs. take n c.loop-page.buf ≡ take n (drop at (image_of fs.database)))) begins i.bytes in
    let before : ℕ = c.max-from.result - at in
    let until : ℕ = c.min-until.result - at in
    let part : ℕ = until - before in
    let place : ℕ = page * 1024 + (c.max-from.result - page * 1024) in
    let here : place ≡ at + before = omega (arith, c.max-from.ensures) in
    let within : before + part ≤ length c.loop-page.buf = omega
    (arith, c.max-from.ensures, c.min-until.ensures, stands.0, stands.1, c.loop-page.auto.buf) in
    let long : length (take part (drop before c.loop-page.buf)) ≡ part = omega
    (arith, length-take part (drop before c.loop-page.buf), length-drop before c.loop-page.buf, within) in
    record {
      bytes =
          range_read_to (g.D.Disk.files c.loop-page.disk) (g.D.Disk.files c.read_part.new.disk) at before place
          (min (max at ((page + 1) * 1024)) (at + len) - at) part
          (length (take part (drop before c.loop-page.buf))) _ c.loop-page.buf c.read_part.new.out
          (done.reads.files false≢true) here ends within (c.read_part.auto.out ∙ long) long front done.bytes;
      reads = reads_as false≢true (λ none. absurd none) (reads_joined i.reads (λ none. none) done.reads);
      same = record { version = done.same.version ∙ i.same.version; len = done.same.len ∙ i.same.len };
      agrees = done.agrees;
      brought = (
        suc i.brought.0,
        omega
            (arith, i.brought.1),
        (
          c.loop-page.self.cache,
          i.brought.2,
          subst
              (λ (n : ℕ). BringsPage n c.loop-page.self.cache c.read_part.new.self.cache) i.brought.1 done.brought,
        ),
      );
      kept = λ all.
          let first = i.kept all in
          let now = first.1 page (all page some stands.0 stands.1) in
          let left = done.kept now in
          (left.1 ∙ first.0, λ q there. stays_kept page q _ _ done.brought now (first.1 q there));
      stopped = λ is q low below.
          ⊎_elim (i.stopped is q low)
          (λ same. subst (λ (n : ℕ). IsKept c.args.self.now.cache n) (sym same)
          (i.coming page (omega arith) (done.stopped (subst IsStopped (sym i.reads.stop) is))))
          (here_or_before page q below);
      coming = λ q above there. i.coming q (omega arith) (was_kept page q _ _ (λ same. omega arith) done.brought there);
    }
