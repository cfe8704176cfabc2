-- `fed_alike` meets its contract: both ways go through the text, so what they have found can be compared.
use mathlib.Core.Path.{ap₂}
use mathlib.Core.List.{[]}
use Rattle.decoder_from_utf16.specs.State.{unit_decoding}
use Rattle.decoder_from_utf16.proofs.UnitsLawful.{units_lawful}
use Rattle.demand_feeding.specs.Feeds.{Given, given}
use Rattle.demand_feeding.specs.Pieces.{lent}
use Rattle.demand_feeding.proofs.FoundAlike.{found-fair}
use Rattle.demand_from_utf16.proofs.fed_alike.Goals.{After-feed_pieces-b}
use Rattle.demand_from_utf16.proofs.fed_alike.Goals as goal

-- what one feed has found, and the feeds of pieces
abbrev one : (c : After-feed_pieces-b) → Given
one c = given c.feed_pieces-a.result c.feed_pieces-a.new.out c.feed_pieces-a.new.list

abbrev many : (c : After-feed_pieces-b) → Given
many c = given c.feed_pieces-b.result c.feed_pieces-b.new.out c.feed_pieces-b.new.list

pub compare-requires : goal.compare-requires
compare-requires c =
    let a = c.args in
    found-fair unit_decoding units_lawful a.room a.text.now c.requires.1 [] a.cuts.now [] [] a.once.now a.once_list.now a.parts.now a.parts_list.now
    (one (goal.at.compare-requires c).After-feed_pieces-b) (many (goal.at.compare-requires c).After-feed_pieces-b) c.feed_pieces-a.ensures c.feed_pieces-b.ensures c.feed_pieces-a.auto.out c.feed_pieces-a.auto.list
    c.feed_pieces-b.auto.out c.feed_pieces-b.auto.list a.whole.now c.requires.0

pub returns : goal.returns
returns c =
    let a = c.args in
    record {
      yes = c.compare.ensures;
      buffers = ap₂ (λ (v w : Given). lent a.whole.now v.out v.list w.out w.list) c.feed_pieces-a.ensures c.feed_pieces-b.ensures;
    }
