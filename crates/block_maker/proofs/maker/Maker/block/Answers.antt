use Rattle.std.specs.Option.{option_copied}
use Rattle.std.proofs.lemmas.Result.{IfOk-weaker}
use Rattle.block_maker.specs.Seen.{asked_on}
use Rattle.block_maker.proofs.Whole.{whole_is, whole_again, whole_short, whole_height, whole_made}
use Rattle.block_maker.proofs.maker.Maker.block.Goals as goal

pub returns-clause-block : goal.returns-clause-block
returns-clause-block c =
    let made = asked_on c.args.previous (option_copied c.args.op) in
    IfOk-weaker c.put_together.result _ _ (λ bytes put. whole_is bytes c.args.previous made c.in_ok-contents.contents c.requires.height c.in_ok-contents.ensures put) c.put_together.ensures

pub returns-clause-short : goal.returns-clause-short
returns-clause-short c =
    let made = asked_on c.args.previous (option_copied c.args.op) in
    IfOk-weaker c.put_together.result _ _ (λ bytes put. whole_short bytes c.args.previous made c.in_ok-contents.contents c.in_ok-contents.ensures put) c.put_together.ensures

pub returns-clause-again : goal.returns-clause-again
returns-clause-again c =
    let made = asked_on c.args.previous (option_copied c.args.op) in
    IfOk-weaker c.put_together.result _ _ (λ bytes put. whole_again bytes c.args.previous made c.in_ok-contents.contents c.requires.height c.in_ok-contents.ensures put) c.put_together.ensures

pub returns-clause-height : goal.returns-clause-height
returns-clause-height c =
    let made = asked_on c.args.previous (option_copied c.args.op) in
    IfOk-weaker c.put_together.result _ _ (λ bytes put. whole_height bytes c.args.previous made c.in_ok-contents.contents c.in_ok-contents.ensures put) c.put_together.ensures

pub returns-clause-made : goal.returns-clause-made
returns-clause-made c =
    let made = asked_on c.args.previous (option_copied c.args.op) in
    IfOk-weaker c.put_together.result _ _ (λ bytes put. whole_made bytes c.args.previous made c.in_ok-contents.contents c.requires.height c.in_ok-contents.ensures put) c.put_together.ensures
