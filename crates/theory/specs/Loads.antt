-- What a request is for MIN where a layer rule applies: from L0, under 1a and 1b, the requested page is loaded, under 1b after a bundle.
use Rattle.std.specs.Prelude.{Bool, true, false}
use Rattle.paging.specs.Layers.{LayerRule, append, join, lift}
use Rattle.paging.specs.Policy.{Kind, hit, load, bundled}

abbrev pub kind_of_rule : LayerRule → Kind
kind_of_rule append = load
kind_of_rule join = bundled
kind_of_rule lift = hit

abbrev pub from_l0 : LayerRule → Bool
from_l0 append = true
from_l0 join = true
from_l0 lift = false
