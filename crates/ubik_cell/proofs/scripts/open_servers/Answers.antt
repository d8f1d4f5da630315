use Rattle.std.proofs.Common.{◌≡◌, ℕ, ◌+◌, ◌<◌, length, take, slice_index_or, refl, sym, ap, subst, ◌∙◌, arith, rules}
use Rattle.std.specs.String.{string_bytes}
use Rattle.cell_runs.specs.ScriptDatabase.{script_database}
use Rattle.cell_sites.specs.Opened.{ArePartOpened, counts_of}
use Rattle.cell_sites.specs.Sites.{helds}
use Rattle.ubik_cell.specs.Lines.{AreUnwritten}
use Rattle.ubik_cell.proofs.Opening.{added_unwritten, counts-push, next_left, next_taken, none_unwritten}
use Rattle.ubik_cell.proofs.Settling.{added_settled, none_settled}
use Rattle.ubik_cell.proofs.scripts.open_servers.Goals as goal

pub loop-init : goal.loop-init
loop-init g c = record {
  opened = c.requires.opened;
  count = ap length c.requires.none;
  left = search rules;
  number = omega arith;
  settled = none_settled g.D.Disk c.args.cell.now c.requires.none;
  unwritten = none_unwritten g.D.Disk c.args.cell.now c.requires.none;
  room = c.requires.room;
  hosts = refl;
}

pub returns-in_err-open_next-clause-unwritten : goal.returns-in_err-open_next-clause-unwritten
returns-in_err-open_next-clause-unwritten g c =
    let given = c.args.spare.now.items in
    let n : ℕ = c.loop.counter in
    let inside : n < length given = omega (arith, c.requires.enough, c.loop-test.true, c.args.spare.now.ok.0) in
    let disk = c.remove-disk.result in
    let is = c.remove-disk.ensures.value ∙ ap (λ l. slice_index_or l 0 disk) c.loop.invariant.left in
    let before = counts_of g.D.Disk (take n given) in
    let count : length c.open_next.new.self.sites.items ≡ n + 1 = c.open_next.ensures.count ∙ ap (λ n. n + 1) c.loop.invariant.count in
    let taken = ap (λ m. counts_of g.D.Disk (take m given)) count ∙ ap (counts_of g.D.Disk) (next_taken given n disk inside is)
    ∙ counts-push g.D.Disk (take n given) disk in
    subst (λ l. AreUnwritten l (helds g.D.Disk c.open_next.new.self)) (sym taken)
    (added_unwritten g.D.Disk before disk c.loop.cell c.open_next.new.self c.open_next.ensures.added c.loop.invariant.unwritten)

pub returns-in_err-open_next-clause-settled : goal.returns-in_err-open_next-clause-settled
returns-in_err-open_next-clause-settled g c =
    added_settled g.D.Disk c.remove-disk.result c.loop.cell c.open_next.new.self c.open_next.ensures.added c.loop.invariant.settled

pub returns-clause-unwritten : goal.returns-clause-unwritten
returns-clause-unwritten g c =
    subst (λ n. AreUnwritten (counts_of g.D.Disk (take n c.args.spare.now.items)) (helds g.D.Disk c.loop.cell)) (sym c.loop.invariant.count)
    c.loop.invariant.unwritten

pub loop-preserved : goal.loop-preserved
loop-preserved g c =
    let given = c.args.spare.now.items in
    let inside : c.loop.counter < length given = omega (arith, c.requires.enough, c.loop-test.true, c.args.spare.now.ok.0) in
    let left = c.loop.invariant.left in
    let disk = c.remove-disk.result in
    let is = c.remove-disk.ensures.value ∙ ap (λ l. slice_index_or l 0 disk) left in
    let taken = next_taken given c.loop.counter disk inside is in
    let opened = c.in_ok-open_next.ensures.opened (take c.loop.counter given) (string_bytes c.args.text.now) c.loop.invariant.opened in
    let counts = ap (counts_of g.D.Disk) taken ∙ counts-push g.D.Disk (take c.loop.counter given) disk in
    record {
      opened = subst (λ l. ArePartOpened g.D.Disk (script_database g.V.DraftService.standing.database g.V.DraftWords.words) c.args.clock l
          c.open_next.new.self (string_bytes c.args.text.now) (string_bytes c.open_next.new.text)) (sym taken) opened;
      count = c.open_next.ensures.count ∙ ap (λ n. n + 1) c.loop.invariant.count;
      left = next_left given c.loop.spare.items c.remove-disk.new.self.items c.loop.counter left c.remove-disk.ensures.items;
      number = omega (arith, c.remove-disk.ensures.len, c.loop.invariant.number, c.loop.spare.ok.0, c.remove-disk.new.self.ok.0);
      settled = added_settled g.D.Disk disk c.loop.cell c.open_next.new.self c.open_next.ensures.added c.loop.invariant.settled;
      unwritten = subst (λ l. AreUnwritten l (helds g.D.Disk c.open_next.new.self)) (sym counts)
          (added_unwritten g.D.Disk (counts_of g.D.Disk (take c.loop.counter given)) disk c.loop.cell c.open_next.new.self
          c.open_next.ensures.added c.loop.invariant.unwritten);
      room = c.open_next.ensures.room;
      hosts = c.open_next.ensures.hosts ∙ c.loop.invariant.hosts;
    }
