use Rattle.std.proofs.Common.{◌∙◌, ◌-◌, ap, take, rules}
use Rattle.disk_base.specs.Undos.{all_undone}
use Rattle.disk_base.proofs.Undoing.{all_undone-step}
use Rattle.disk_base.proofs.undos.undo_all.Goals as goal

pub loop-at-preserved : goal.loop-at-preserved
loop-at-preserved c =
    let undo = c.index-undos-at.result in record {
      bytes =
          ap (all_undone (take (c.loop-at.at - 1) c.args.undos.now)) c.undo.ensures.bytes
          ∙ all_undone-step c.args.undos.now c.loop-at.at undo c.loop-at.file.items (search rules) (search rules) (search rules)
          ∙ c.loop-at.invariant.bytes;
      capacity = search rules;
    }
