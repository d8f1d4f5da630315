use Rattle.std.proofs.Common.{List, Option, Some, IfSome, sym, ap, subst, ◌∙◌, rules}
use Rattle.std.specs.Prelude.{IsErrOf}
use Rattle.ubik_types.specs.declared.images.Change.{Change}
use Rattle.ubik_store.specs.declared.faults.StoreFault.TheVariants.{DiskFault}
use Rattle.ubik_store.specs.DurableCall.{IsDurable}
use Rattle.ubik_store.specs.Store.{changes_begun}
use Rattle.ubik_store.specs.Rewrite.Rewrite.{Changed}
use Rattle.ubik_store.proofs.Begun.{begun_fits}
use Rattle.ubik_store.proofs.Ended.{EndsFiles, sound_taken, durable_itself, durable_taken, not_forbidden, of_all}
use Rattle.ubik_store.proofs.stores.Store.commit.Goals as goal

pub returns-in_err-allow-clause-durable : goal.returns-in_err-allow-clause-durable
returns-in_err-allow-clause-durable g c = λ went. of_all (changes_begun c.args.self.now.begun) _ (λ changes.
    durable_itself g.D.Disk (Changed changes) c.args.v c.args.self.now _ (c.requires.sound.ready went)
    (λ failed. not_forbidden c.args.self.now c.args.v c.in_err-allow.field-0.0 went c.in_err-allow.ensures.fault (search rules)))

pub returns-in-Some-clause-sound : goal.returns-in-Some-clause-sound
returns-in-Some-clause-sound g c =
    let s = c.args.self.now in
    let made = c.commit_changes-ended in
    let is : EndsFiles g.D.Disk (Changed c.changes.result.now) c.args.v s made.new.disk made.new.pages made.result =
    record { done = made.ensures.done; durable = made.ensures.durable; fault = made.ensures.fault; unchanged = made.ensures.unchanged } in
    sound_taken g.D.Disk
    (Changed c.changes.result.now) c.args.v s made.new.disk made.new.pages made.result c.end.new.self c.end.ensures.store
    c.requires.sound c.in_ok-allow.ensures.ok.0 c.requires.version
    (begun_fits s.begun s.len c.changes.result.now c.requires.sound.begun
    (ap changes_begun c.in-Some.is ∙ ap (λ (cs : List Change). Some cs) (sym c.changes.ensures))) is

pub returns-in-Some-clause-durable : goal.returns-in-Some-clause-durable
returns-in-Some-clause-durable g c = λ went.
    let made = c.commit_changes-ended in
    let P : Option (List Change)
    → Type 0 = λ o. IfSome o
    (λ changes. IsDurable g.D.Disk changes c.args.v c.args.self.now c.end.new.self (IsErrOf c.end.result DiskFault)) in
    subst P (sym (ap changes_begun c.in-Some.is ∙ ap (λ (cs : List Change). Some cs) (sym c.changes.ensures)))
    (durable_taken g.D.Disk
    (Changed c.changes.result.now) c.args.v c.args.self.now made.new.disk made.new.pages made.result c.end.result c.end.new.self
    c.end.ensures.store c.end.ensures.same
    c.requires.sound went c.in_ok-allow.ensures.ok.1 made.ensures.durable)
