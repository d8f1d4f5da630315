use Rattle.std.proofs.Common.{◌≡◌, ℕ, ◌-◌, ◌++◌, List, None, length, replicate, sym, ap, ◌∙◌, arith}
use Rattle.db_image.specs.Blocks.{block_at}
use Rattle.db_image.specs.Places.{block_start}
use Rattle.db_image.specs.Draft.{changed_at}
use Rattle.db_image.proofs.Loading.{IsFresh, absent_block, keeps_laid, keeps_same, loads_laid, loads_same}
use Rattle.db_image.proofs.overlays.Overlay.load.Given.{Over}
use Rattle.db_image.proofs.overlays.Overlay.load.Goals as goal

pub returns-in_err-insert-clause-laid : goal.returns-in_err-insert-clause-laid
returns-in_err-insert-clause-laid g c = keeps_laid c.args.self.now c.insert.new.self _ _ (c.in_err-insert.ensures.err) c.requires.laid

pub returns-in_err-insert-clause-same : goal.returns-in_err-insert-clause-same
returns-in_err-insert-clause-same g c = keeps_same c.args.self.now c.insert.new.self _ (c.in_err-insert.ensures.err)

fresh : (g : Over) (c : goal.In_ok-insert g)
    → IsFresh c.args.self.now.layout (g.I.ImageRead.size c.args.image.now)
    (g.I.ImageRead.held c.args.image.now) c.place_of-place.result.number
    record { old = c.in_ok-old.old; new = c.in_ok-new.new }
fresh g c =
    let l = c.args.self.now.layout in
    let p = c.place_of-place.result in
    let begins : c.args.at - p.offset ≡ block_start l p.number = omega (arith, c.place_of-place.ensures.offset) in
    record {
      bytes = λ x is.
          let there = rw is at c.in_ok-old.ensures.bytes in
          there
          ∙ ap (λ (n : ℕ). block_at x n p.size) begins
          ∙ ap (block_at x (block_start l p.number)) c.place_of-place.ensures.size;
      len = omega (arith, c.in_ok-old.ensures.len, begins, c.place_of-place.ensures.size);
      new =
          c.in_ok-new.ensures
          ∙ ap (λ (xs : List ℕ). xs ++ replicate (p.size - length xs) 0) c.deref.ensures.value
          ∙ ap (λ (n : ℕ). c.in_ok-old.old.items ++ replicate (n - length c.in_ok-old.old.items) 0) c.place_of-place.ensures.size;
    }

pub returns-clause-laid : goal.returns-clause-laid
returns-clause-laid g c =
    loads_laid c.args.self.now c.insert.new.self _ _ c.place_of-place.result.number _ c.requires.laid c.in_ok-insert.ensures.ok (fresh g c)

pub returns-clause-same : goal.returns-clause-same
returns-clause-same g c =
    let absent : changed_at c.args.self.now c.place_of-place.result.number ≡ None =
    absent_block _ (sym c.contains_key.ensures ∙ c.if-contains_key.false) in
    loads_same c.args.self.now c.insert.new.self _ _ c.place_of-place.result.number _ c.requires.laid.block absent c.in_ok-insert.ensures.ok (fresh g c)
