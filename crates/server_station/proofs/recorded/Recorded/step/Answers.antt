use Rattle.std.proofs.Common.{◌≡◌, true, List, [], ◌∷◌, ◌++◌, inr, refl, rules, sym, subst}
use Rattle.cell_model.specs.Step.{Member}
use Rattle.server_journal.specs.declared.items.JournalItem.{JournalItem}
use Rattle.ubik_node.specs.declared.nodes.StepEnd.TheVariants as step
use Rattle.ubik_node.specs.Node.{own_member}
use Rattle.server_journal.specs.Items.{item_of}
use Rattle.server_station.specs.Recording.{Records}
use Rattle.server_station.specs.Replaying.{IsJustOpened}
use Rattle.server_station.specs.declared.recorded.StationEnd.{StationEnd}
use Rattle.server_station.specs.Fit.{are_numbered, are_taken}
use Rattle.server_station.proofs.Numbering.{numbered_more, taken_more}
use Rattle.server_station.proofs.Recording.{cleared}
use Rattle.server_station.proofs.Replaying.{replays_at, replays_more, replays_same}
use Rattle.server_station.proofs.recorded.Recorded.step.Goals as goal
use Rattle.server_station.proofs.recorded.Recorded.step.Goals.{in-Done, in-Halted}

pub returns-in-NoMemory-clause-records : goal.returns-in-NoMemory-clause-records
returns-in-NoMemory-clause-records g c =
    let e = c.in-NoMemory.ensures in (
      search rules,
      record {
        node = inr (cleared g.D.Disk g.V.DraftService.standing c.args.event c.args.now c.args.self.now.node c.step_on-end.new.self
            c.step_on-end.new.out
            (record {
              steps = e.step;
              meant = e.meant;
              member = e.member;
              memory = e.memory;
              halts = e.halts;
              told = e.told;
              calls =
                  e.calls;
              last = e.last;
            }));
        items = search rules;
        outputs_are = search rules;
      },
    )

pub returns-clause-records : goal.returns-clause-records
returns-clause-records g c =
    let with = λ (made : StationEnd). Records g.D.Disk g.V.DraftService.standing
    (g.J.Keeper.limits c.args.self.now.journal) made c.args.event c.args.now c.args.self.now.node c.step_on-end.new.self
    (g.J.Keeper.items c.args.self.now.journal) (g.J.Keeper.items c.keep.new.self) c.step_on-end.new.out in
    elim c.match-end.branch [
      | in-Done w ↦
          let e = w.in-Done.ensures in
          subst with (sym w.made-is) (
            search rules,
            record {
              step = record {
                steps = e.step;
                meant = e.meant;
                member = e.member;
                memory = e.memory;
                halts = e.halts;
                told = e.told;
                calls = e.calls;
                last = e.last;
              };
              item = search rules;
            },
          )
      | in-Halted w ↦
          let e = w.in-Halted.ensures in
          subst with (sym w.made-is) (
            search rules,
            record {
              step = record {
                steps = e.step;
                meant = e.meant;
                member = e.member;
                memory = e.memory;
                halts = e.halts;
                told = e.told;
                calls = e.calls;
                last = e.last;
              };
              item = search rules;
            },
          )
    ]

pub invariant_of-self-in-NoMemory-clause-replays : goal.invariant_of-self-in-NoMemory-clause-replays
invariant_of-self-in-NoMemory-clause-replays g c =
    let e = c.in-NoMemory.ensures in
    let was = c.args.self.now in
    let items : g.J.Keeper.items c.admit.new.self ≡ g.J.Keeper.items was.journal = search rules in
    replays_at g.D.Disk g.V.DraftService.standing was.past.opened.value was.past.opened.value c.step_on-end.new.self _ _
    was.past.outputs.value was.past.outputs.value refl items refl
    (replays_same g.D.Disk g.V.DraftService.standing was.past.opened.value was.node c.step_on-end.new.self
    (g.J.Keeper.items was.journal) was.past.outputs.value
    c.step_on-end.new.out c.args.event c.args.now was.member
    (record {
      steps = e.step;
      meant = e.meant;
      member = e.member;
      memory = e.memory;
      halts = e.halts;
      told = e.told;
      calls = e.calls;
      last = e.last;
    }) was.replays)

pub invariant_of-self-2-clause-replays : goal.invariant_of-self-2-clause-replays
invariant_of-self-2-clause-replays g c =
    let was = c.args.self.now in
    let is = c.step_on-end.new.self in
    let out = c.step_on-end.new.out in
    let more = replays_more g.D.Disk g.V.DraftService.standing was.past.opened.value was.node is
    (g.J.Keeper.items was.journal) was.past.outputs.value out c.args.event c.args.now in
    let items : g.J.Keeper.items c.keep.new.self ≡ g.J.Keeper.items was.journal
    ++ item_of c.args.now c.args.event out is.store.failed ∷ [] = search rules in
    replays_at g.D.Disk g.V.DraftService.standing was.past.opened.value c.add.new.self.opened.value is
    (g.J.Keeper.items was.journal ++ item_of c.args.now c.args.event out is.store.failed ∷ []) _
    (was.past.outputs.value ++ out) _ c.add.ensures.opened items c.add.ensures.outputs
    (elim c.match-end.branch [
      | in-Done w ↦
          let e = w.in-Done.ensures in
          more step.Done (λ is. cc) was.member
          (record {
            steps = e.step;
            meant = e.meant;
            member = e.member;
            memory = e.memory;
            halts = e.halts;
            told = e.told;
            calls =
                e.calls;
            last = e.last;
          }) was.replays
      | in-Halted w ↦
          let e = w.in-Halted.ensures in
          more step.Halted (λ is. cc) was.member
          (record {
            steps = e.step;
            meant = e.meant;
            member = e.member;
            memory = e.memory;
            halts = e.halts;
            told = e.told;
            calls =
                e.calls;
            last = e.last;
          }) was.replays
    ])

pub invariant_of-self-2-clause-numbered : goal.invariant_of-self-2-clause-numbered
invariant_of-self-2-clause-numbered g c =
    let was = c.args.self.now in
    let kept = g.J.Keeper.items was.journal in
    let item = item_of c.args.now c.args.event c.step_on-end.new.out c.step_on-end.new.self.store.failed in
    let items : g.J.Keeper.items c.keep.new.self ≡ kept ++ item ∷ [] = search rules in
    subst (λ (is : List JournalItem). are_numbered 0 is ≡ true) (sym items)
    (numbered_more (g.J.Keeper.limits was.journal) kept item (search rules) c.requires.next was.numbered)

pub invariant_of-self-2-clause-taken : goal.invariant_of-self-2-clause-taken
invariant_of-self-2-clause-taken g c =
    let was = c.args.self.now in
    let kept = g.J.Keeper.items was.journal in
    let is = c.step_on-end.new.self in
    let item = item_of c.args.now c.args.event c.step_on-end.new.out is.store.failed in
    let items : g.J.Keeper.items c.keep.new.self ≡ kept ++ item ∷ [] = search rules in
    subst (λ (m : Member). are_taken m (g.J.Keeper.items c.keep.new.self) ≡ true) (sym c.step_on-end.ensures.member)
    (subst (λ (is : List JournalItem). are_taken (own_member was.node) is ≡ true) (sym items)
    (taken_more (own_member was.node) kept item c.requires.taken was.taken))

pub invariant_of-self-2-clause-opened : goal.invariant_of-self-2-clause-opened
invariant_of-self-2-clause-opened g c = subst (λ node. IsJustOpened node) (sym c.add.ensures.opened) c.args.self.now.opened

pub invariant_of-self-in-NoMemory-clause-numbered : goal.invariant_of-self-in-NoMemory-clause-numbered
invariant_of-self-in-NoMemory-clause-numbered g c =
    let items : g.J.Keeper.items c.admit.new.self ≡ g.J.Keeper.items c.args.self.now.journal = search rules in
    subst (λ (is : List JournalItem). are_numbered 0 is ≡ true) (sym items) c.args.self.now.numbered

pub invariant_of-self-in-NoMemory-clause-taken : goal.invariant_of-self-in-NoMemory-clause-taken
invariant_of-self-in-NoMemory-clause-taken g c =
    let items : g.J.Keeper.items c.admit.new.self ≡ g.J.Keeper.items c.args.self.now.journal = search rules in
    subst (λ (m : Member). are_taken m (g.J.Keeper.items c.admit.new.self) ≡ true) (sym c.step_on-end.ensures.member)
    (subst (λ (is : List JournalItem). are_taken (own_member c.args.self.now.node) is ≡ true) (sym items) c.args.self.now.taken)
