use Rattle.std.proofs.Common.{lit<, refl}
use Rattle.afs_words.specs.Tables.{parameters_of}
use Rattle.afs_words.specs.declared.tables.Operation.TheVariants as op
use Rattle.afs_words.proofs.Required.{takes_in, within}
use Rattle.afs_words.proofs.vos_commands.list_vldb.Goals as goal

pub volume-requires : goal.volume-requires
volume-requires c = takes_in (parameters_of op.ListVldb) c.args.judged.now 0 _ _ _ c.requires refl

pub filter_at-sites-requires : goal.filter_at-sites-requires
filter_at-sites-requires c = record {
  server = takes_in (parameters_of op.ListVldb) c.args.judged.now 1 _ _ _ c.requires refl;
  partition = takes_in (parameters_of op.ListVldb) c.args.judged.now 2 _ _ _ c.requires refl;
}

pub flag-locked-requires : goal.flag-locked-requires
flag-locked-requires c = within (parameters_of op.ListVldb) c.args.judged.now 3 c.requires (lit< tt)

pub flag-requires : goal.flag-requires
flag-requires c = within (parameters_of op.ListVldb) c.args.judged.now 4 c.requires (lit< tt)

pub flag-requires-2 : goal.flag-requires-2
flag-requires-2 c = within (parameters_of op.ListVldb) c.args.judged.now 5 c.requires (lit< tt)
