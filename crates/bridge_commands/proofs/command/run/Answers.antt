use Rattle.std.proofs.Common.{List, ℕ, ◌^◌, Ok, refl, sym, ap, subst, ◌∙◌}
use Rattle.nmc_base.specs.declared.chain_ends.Base.{Base}
use Rattle.name_store.specs.Host.{IsHostOf}
use Rattle.bridge_core.specs.Determined.{outside}
use Rattle.frame_loop.specs.Transcript.{streams}
use Rattle.name_lister.specs.Listing.{Lists}
use Rattle.bridge_commands.specs.Making.{Inits, InitsFrom}
use Rattle.bridge_commands.specs.SelfTest.{SelfTests}
use Rattle.bridge_commands.specs.Serving.{Serves, serve_seen}
use Rattle.bridge_commands.specs.Words.{Asks}
use Rattle.bridge_commands.specs.declared.words.Command.{Command}
use Rattle.bridge_commands.specs.declared.words.Command.TheVariants.{Replay, Listing, Dump, Init, Serve, SelfTest}
use Rattle.bridge_commands.specs.declared.words.Plan.{Plan}
use Rattle.bridge_commands.specs.declared.words.Start.{Start}
use Rattle.bridge_commands.specs.declared.words.Start.TheVariants.{Empty, Snapshot}
use Rattle.bridge_commands.specs.declared.words.Trial.{Trial}
use Rattle.bridge_commands.proofs.StatusLemmas.{err_not_ok, init_not_words, from_not_words, same_base, same_host, same_plan, same_size, same_trial}
use Rattle.bridge_commands.proofs.command.run.Goals as goal

pub returns-in-Err-clause-replay : goal.returns-in-Err-clause-replay
returns-in-Err-clause-replay g c = λ asked. absurd (err_not_ok (c.in-Err.ensures.one Replay asked))

pub returns-in-Err-clause-list : goal.returns-in-Err-clause-list
returns-in-Err-clause-list g c = λ size asked. absurd (err_not_ok (c.in-Err.ensures.one (Listing size) asked))

pub returns-in-Err-clause-init : goal.returns-in-Err-clause-init
returns-in-Err-clause-init g c = λ base name asked. absurd (err_not_ok (c.in-Err.ensures.one (Init Empty base name) asked))

pub returns-in-Err-clause-init_from : goal.returns-in-Err-clause-init_from
returns-in-Err-clause-init_from g c = λ base name asked. absurd (err_not_ok (c.in-Err.ensures.one (Init Snapshot base name) asked))

pub returns-in-Err-clause-dump : goal.returns-in-Err-clause-dump
returns-in-Err-clause-dump g c = λ asked. absurd (err_not_ok (c.in-Err.ensures.one Dump asked))

pub returns-in-Err-clause-serve : goal.returns-in-Err-clause-serve
returns-in-Err-clause-serve g c = λ plan asked. absurd (err_not_ok (c.in-Err.ensures.one (Serve plan) asked))

pub returns-in-Err-clause-selftest : goal.returns-in-Err-clause-selftest
returns-in-Err-clause-selftest g c = λ trial asked. absurd (err_not_ok (c.in-Err.ensures.one (SelfTest trial) asked))

pub returns-in-Ok-Listing-clause-list : goal.returns-in-Ok-Listing-clause-list
returns-in-Ok-Listing-clause-list g c = λ size asked.
    let one = sym (ap Ok c.in-Ok-Listing.field-0-is) ∙ c.in-Ok-Listing.ensures.one (Listing size) asked in
    subst (λ (n : ℕ). Lists n g.D.Disk.tells g.D.Disk.seen c.list.new.disk (outside (streams (g.S.Source.seen c.args.source.now) (g.K.Sink.seen c.args.sink.now)) (g.D.Disk.seen c.args.disk.now))
    (outside (streams (g.S.Source.seen c.list.new.source) (g.K.Sink.seen c.list.new.sink)) (g.D.Disk.seen c.list.new.disk)) (2 ^ 40) c.list.result) (same_size c.in-Ok-Listing.size size one) c.list.ensures

pub returns-in-Ok-SelfTest-clause-selftest : goal.returns-in-Ok-SelfTest-clause-selftest
returns-in-Ok-SelfTest-clause-selftest g c = λ trial asked.
    let one = sym (ap Ok c.in-Ok-SelfTest.field-0-is) ∙ c.in-Ok-SelfTest.ensures.one (SelfTest trial) asked in (
      subst (λ (t : Trial). SelfTests t (g.K.Sink.seen c.args.sink.now) (g.K.Sink.seen c.self_test.new.sink) c.self_test.result) (same_trial c.in-Ok-SelfTest.trial trial one) c.self_test.ensures,
      refl,
    )

pub returns-in-Ok-Serve-clause-serve : goal.returns-in-Ok-Serve-clause-serve
returns-in-Ok-Serve-clause-serve g c = λ plan asked.
    let one = sym (ap Ok c.in-Ok-Serve.field-0-is) ∙ c.in-Ok-Serve.ensures.one (Serve plan) asked in
    subst (λ (p : Plan). Serves g.D.Disk.tells g.D.Disk.seen c.serve.new.disk (serve_seen (g.P.Port.seen c.args.port.now) (g.D.Disk.seen c.args.disk.now))
    (serve_seen (g.P.Port.seen c.serve.new.port) (g.D.Disk.seen c.serve.new.disk)) p c.serve.result) (same_plan c.in-Ok-Serve.plan plan one) c.serve.ensures

pub returns-in-Ok-Init-Empty-default-default-clause-words : goal.returns-in-Ok-Init-Empty-default-default-clause-words
returns-in-Ok-Init-Empty-default-default-clause-words g c =
    let asked = subst (λ (x : Command). Asks c.args.words.now.items x) (c.in-Ok-Init-Empty-default-default.field-0-is ∙ ap (λ (s : Start). Init s c.in-Ok-Init-Empty-default-default.base c.in-Ok-Init-Empty-default-default.host) c.in-Ok-Init-Empty-default-default.field-0-0-is) c.in-Ok-Init-Empty-default-default.ensures.found in (
      λ is. absurd (init_not_words (c.init.ensures asked.host asked.fields.host_is).ending is),
      λ none. absurd (none (Init Empty c.in-Ok-Init-Empty-default-default.base c.in-Ok-Init-Empty-default-default.host) asked),
    )

pub returns-in-Ok-Init-Empty-default-default-clause-untouched : goal.returns-in-Ok-Init-Empty-default-default-clause-untouched
returns-in-Ok-Init-Empty-default-default-clause-untouched g c = λ is.
    let asked = subst (λ (x : Command). Asks c.args.words.now.items x) (c.in-Ok-Init-Empty-default-default.field-0-is ∙ ap (λ (s : Start). Init s c.in-Ok-Init-Empty-default-default.base c.in-Ok-Init-Empty-default-default.host) c.in-Ok-Init-Empty-default-default.field-0-0-is) c.in-Ok-Init-Empty-default-default.ensures.found in
    absurd (init_not_words (c.init.ensures asked.host asked.fields.host_is).ending is)

pub returns-in-Ok-Init-Empty-default-default-clause-init : goal.returns-in-Ok-Init-Empty-default-default-clause-init
returns-in-Ok-Init-Empty-default-default-clause-init g c = λ base name asked.
    let found = c.in-Ok-Init-Empty-default-default.base in
    let host = c.in-Ok-Init-Empty-default-default.host in
    let one = sym (ap Ok (c.in-Ok-Init-Empty-default-default.field-0-is ∙ ap (λ (s : Start). Init s c.in-Ok-Init-Empty-default-default.base c.in-Ok-Init-Empty-default-default.host) c.in-Ok-Init-Empty-default-default.field-0-0-is)) ∙ c.in-Ok-Init-Empty-default-default.ensures.one (Init Empty base name) asked in
    subst (λ (b : Base). Inits g.D.Disk.tells b asked.host (g.D.Disk.seen c.args.disk.now) (g.D.Disk.seen c.init.new.disk) c.init.result) (same_base Empty found base host name one)
    (c.init.ensures asked.host (subst (λ (n : List ℕ). IsHostOf asked.host n) (sym (same_host Empty found base host name one)) asked.fields.host_is))

pub returns-in-Ok-Init-Snapshot-default-default-clause-words : goal.returns-in-Ok-Init-Snapshot-default-default-clause-words
returns-in-Ok-Init-Snapshot-default-default-clause-words g c =
    let asked = subst (λ (x : Command). Asks c.args.words.now.items x) (c.in-Ok-Init-Snapshot-default-default.field-0-is ∙ ap (λ (s : Start). Init s c.in-Ok-Init-Snapshot-default-default.base c.in-Ok-Init-Snapshot-default-default.host) c.in-Ok-Init-Snapshot-default-default.field-0-0-is) c.in-Ok-Init-Snapshot-default-default.ensures.found in (
      λ is. absurd (from_not_words (c.init_from.ensures.inits asked.host asked.fields.host_is) is),
      λ none. absurd (none (Init Snapshot c.in-Ok-Init-Snapshot-default-default.base c.in-Ok-Init-Snapshot-default-default.host) asked),
    )

pub returns-in-Ok-Init-Snapshot-default-default-clause-untouched : goal.returns-in-Ok-Init-Snapshot-default-default-clause-untouched
returns-in-Ok-Init-Snapshot-default-default-clause-untouched g c = λ is.
    let asked = subst (λ (x : Command). Asks c.args.words.now.items x) (c.in-Ok-Init-Snapshot-default-default.field-0-is ∙ ap (λ (s : Start). Init s c.in-Ok-Init-Snapshot-default-default.base c.in-Ok-Init-Snapshot-default-default.host) c.in-Ok-Init-Snapshot-default-default.field-0-0-is) c.in-Ok-Init-Snapshot-default-default.ensures.found in
    absurd (from_not_words (c.init_from.ensures.inits asked.host asked.fields.host_is) is)

pub returns-in-Ok-Init-Snapshot-default-default-clause-init_from : goal.returns-in-Ok-Init-Snapshot-default-default-clause-init_from
returns-in-Ok-Init-Snapshot-default-default-clause-init_from g c = λ base name asked.
    let found = c.in-Ok-Init-Snapshot-default-default.base in
    let host = c.in-Ok-Init-Snapshot-default-default.host in
    let one = sym (ap Ok (c.in-Ok-Init-Snapshot-default-default.field-0-is ∙ ap (λ (s : Start). Init s c.in-Ok-Init-Snapshot-default-default.base c.in-Ok-Init-Snapshot-default-default.host) c.in-Ok-Init-Snapshot-default-default.field-0-0-is)) ∙ c.in-Ok-Init-Snapshot-default-default.ensures.one (Init Snapshot base name) asked in
    subst (λ (b : Base). InitsFrom g.D.Disk.tells b asked.host (2 ^ 32) (g.D.Disk.seen c.args.disk.now) (g.D.Disk.seen c.init_from.new.disk) (g.S.Source.seen c.args.source.now) (g.S.Source.seen c.init_from.new.source)
    c.init_from.result) (same_base Snapshot found base host name one)
    (c.init_from.ensures.inits asked.host (subst (λ (n : List ℕ). IsHostOf asked.host n) (sym (same_host Snapshot found base host name one)) asked.fields.host_is))
