use Rattle.measures.specs.Means.{squared_bends, squared_first}
use Rattle.measures.specs.Medians.{absolute_bends, absolute_first}
use Rattle.measures.specs.Middles.{largest_smallest}
use Rattle.isotonic.specs.Summed.{sum_smallest}
use Rattle.measures.proofs.theorems.preferred_is_smallest_of_least.Goals as goal

pub returns : goal.returns
returns c = (sum_smallest _ _ absolute_bends absolute_first, sum_smallest _ _ squared_bends squared_first, largest_smallest)
