-- The write that another server began, when one of its pieces has come.
use Rattle.std.specs.Option.{ForSome}
use Rattle.std.proofs.Common.{◌≡◌, ◌∙◌, true, Some, List, ℕ, Result, Ok, Err, sym, ap, subst}
use Rattle.std.specs.Prelude.{OnOk, OnErr}
use Rattle.ubik_types.specs.declared.versions.Version.{Version}
use Rattle.ubik_types.specs.Version.{IsVersion, version_lt}
use Rattle.cell_model.specs.Node.{KeptWrite}
use Rattle.server_state.specs.Keeping.{IsKeptOver}
use Rattle.ubik_write.specs.Pending.{with_piece_at}

-- whether it was taken or memory lacked, the write is of the same version
pub same_new : {E : Type 0} (r : Result (Unit {0}) E) (number : ℕ) (bytes : List ℕ) (before after : KeptWrite)
    → OnOk r (after ≡ with_piece_at number bytes before) → OnErr r (after ≡ before) → after.new ≡ before.new
same_new (Ok done) number bytes before after ok err = ap (λ (w : KeptWrite). w.new) ok
same_new (Err e) number bytes before after ok err = ap (λ (w : KeptWrite). w.new) err

pub still_over : (own : Version) (before after : KeptWrite) → after.new ≡ before.new → IsKeptOver own before
    → ForSome (Some after) (IsKeptOver own)
still_over own before after same over = λ w is.
    let it : after ≡ w = cc in
    let new : before.new ≡ w.new = sym same ∙ ap (λ (x : KeptWrite). x.new) it in
    record { version = subst IsVersion new over.version; newer = subst (λ (v : Version). version_lt own v ≡ true) new over.newer }
