use Rattle.std.proofs.Common.{◌≡◌, Option, Some, sym, ap, subst, ◌∙◌, arith}
use Rattle.std.specs.Prelude.{unwrap_or}
use Rattle.ubik_types.specs.declared.versions.Version.{Version}
use Rattle.ubik_types.specs.Version.{IsVersion, zero_version}
use Rattle.ubik_store.proofs.Rests.{opened_rests, opened_stands}
use Rattle.ubik_store.proofs.stores.Store.open.Goals as goal

pub returns-in-Ok-clause-sound : goal.returns-in-Ok-clause-sound
returns-in-Ok-clause-sound g c =
    let e = c.in-Ok.ensures.opened in
    let own = e.numbers in
    let same : c.version.result ≡ own.0 = c.version.ensures ∙ ap (λ (o : Option Version). unwrap_or o zero_version) own.1 in
    let label = own.1 ∙ ap Some (sym same) in
    let long = e.len in
    record {
      version = subst IsVersion (sym same) own.2;
      len = omega (arith, c.len.ensures, long);
      ready = λ _. record {
        agrees = e.agrees;
        label = label;
        len = omega (arith, c.len.ensures, long);
        rests = opened_rests (g.D.Disk.files c.args.disk)
            (g.D.Disk.files c.open_files.new.disk) c.version.result c.in-Ok.pages label e.stands e.untold;
        settled = e.settled;
        runs = λ stopped. let failed = c.in-Ok.ensures.opening.stopped stopped in absurd cc;
      };
      begun = tt;
    }

pub returns-in-Ok-clause-stands : goal.returns-in-Ok-clause-stands
returns-in-Ok-clause-stands g c =
    let e = c.in-Ok.ensures.opened in
    let own = e.numbers in
    let same : c.version.result ≡ own.0 = c.version.ensures ∙ ap (λ (o : Option Version). unwrap_or o zero_version) own.1 in
    let long = e.len in
    opened_stands (g.D.Disk.files c.args.disk) (g.D.Disk.files c.open_files.new.disk) c.version.result c.len.result c.in-Ok.pages
    (own.1 ∙ ap Some (sym same)) (omega (arith, c.len.ensures, long)) e.stands
