use Rattle.std.proofs.Common.{ap, ◌∙◌, length, take}
use Rattle.std.proofs.lemmas.List.{take-map}
use Rattle.domain_text.specs.Names.{lower}
use Rattle.bit_resolver.proofs.short_bytes.ShortBytes.few_lower.Goals as goal

pub returns : goal.returns
returns c =
    let few = length c.args.bytes.now in
    ap (take few) c.make_ascii_lowercase.ensures.after ∙ take-map _ few c.places_of-places.result ∙ ap lower c.places_of-places.ensures
