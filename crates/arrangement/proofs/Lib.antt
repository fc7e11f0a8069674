-- How long a reading takes at worst and at best, over all arrangements of the same probes. Read AtWorst, WorstSheet and Star for what is promised; the
-- others carry them.
pub mod HungYards
pub mod Heaviest
pub mod RisingOrder
pub mod Ranked
pub mod Placing
pub mod Deeper
pub mod AtWorst
pub mod Crowded
pub mod Written
pub mod Hung
pub mod Star
pub mod AllPairs
pub mod Chain
pub mod WorstSheet
pub mod Equal
pub mod SpreadTold
pub mod NoIdle
pub mod PutInTurn
pub mod Arranging
pub mod HungDecided
