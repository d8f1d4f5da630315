use Rattle.ubik_node.proofs.Alike.{alike_shows, none_free}
use Rattle.std.proofs.Common.{◌∙◌, refl, sym}
use Rattle.std.proofs.lemmas.List.{append-nil}
use Rattle.ubik_node.specs.Choices.{none_chosen}
use Rattle.ubik_node.specs.Node.{held}
use Rattle.ubik_node.proofs.Endings.{rests_ends}
use Rattle.ubik_node.proofs.Places.{placed}
use Rattle.ubik_node.proofs.nodes.Node.receive.Goals as goal

pub returns-in_default-clause-ends : goal.returns-in_default-clause-ends
returns-in_default-clause-ends g c =
    rw (placed _ _ _ c.index.ensures.found c.index.ensures.only ∙ c.in_default.is)
    (none_chosen g.V.DraftService.standing, rests_ends g.D.Disk (held c.args.self.now) c.args.self.now.stored c.requires.not_halted (record { server = refl; calls = refl; outputs = sym (append-nil c.args.out.now) }))

pub returns-clause-ends : goal.returns-clause-ends
returns-clause-ends g c = rw (placed _ _ _ c.index.ensures.found c.index.ensures.only ∙ c.in-Some.is) c.heard.ensures.ends

pub returns-in_default-clause-alike : goal.returns-in_default-clause-alike
returns-in_default-clause-alike g c =
    rw (placed _ _ _ c.index.ensures.found c.index.ensures.only ∙ c.in_default.is)
    (c.args.self.now.state.image, refl, none_free g.V.DraftService.standing.database, alike_shows (record { server = refl; calls = refl; outputs = sym (append-nil c.args.out.now) }))

pub returns-clause-alike : goal.returns-clause-alike
returns-clause-alike g c = rw (placed _ _ _ c.index.ensures.found c.index.ensures.only ∙ c.in-Some.is) c.heard.ensures.alike
