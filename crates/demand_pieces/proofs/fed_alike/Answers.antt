-- `fed_alike` meets its contract: both ways go through the text, so what they have found can be compared.
use mathlib.Core.Path.{sym, ap₂, ◌∙◌}
use mathlib.Core.Bool.{true≢false}
use mathlib.Core.List.{[], ◌∷◌}
use borrow.Author.Tests.{not-true}
use Rattle.decoder.specs.State.{byte_decoding}
use Rattle.decoder.proofs.BytesLawful.{bytes_lawful}
use Rattle.demand_feeding.specs.Feeds.{Given, given}
use Rattle.demand_feeding.specs.Pieces.{lent}
use Rattle.demand_feeding.proofs.FoundAlike.{found-fair}
use Rattle.demand_pieces.proofs.fed_alike.Goals.{After-feed_pieces-way}
use Rattle.demand_pieces.proofs.fed_alike.Goals as goal

-- what one feed has found, and the feeds of pieces
abbrev one : (c : After-feed_pieces-way) → Given
one c = given c.feed_once-a.result c.feed_once-a.new.out c.feed_once-a.new.list

abbrev many : (c : After-feed_pieces-way) → Given
many c = given c.feed_pieces-way.result.found c.feed_pieces-way.new.out c.feed_pieces-way.new.list

pub returns-then-not-way : goal.returns-then-not-way
returns-then-not-way c =
    absurd (true≢false (sym c.feed_pieces-way.ensures.refuses ∙ not-true _ c.if-not-way.true))

pub compare-requires : goal.compare-requires
compare-requires c =
    let a = c.args in
    found-fair byte_decoding bytes_lawful a.room a.text.now c.requires.1 [] a.cuts.now [] (a.scant ∷ [])
    a.once.now a.once_list.now a.parts.now a.parts_list.now (one (goal.at.compare-requires c).After-feed_pieces-way) (many (goal.at.compare-requires c).After-feed_pieces-way) c.feed_once-a.ensures c.feed_pieces-way.ensures.found
    c.feed_once-a.auto.out c.feed_once-a.auto.list c.feed_pieces-way.auto.out c.feed_pieces-way.auto.list
    a.whole.now c.requires.0

pub returns : goal.returns
returns c =
    let a = c.args in
    record {
      yes = c.compare.ensures;
      buffers = ap₂ (λ (v w : Given). lent a.whole.now v.out v.list w.out w.list) c.feed_once-a.ensures c.feed_pieces-way.ensures.found;
    }
