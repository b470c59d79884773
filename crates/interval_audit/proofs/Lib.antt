mod Ranks
mod Counting
mod CellSums
mod Caps
mod RowLists
mod ComponentLists
mod Divisors
mod Listing
mod Givens
mod Lowering
mod Pairing
mod Scaling
mod Proper
mod ReadStates
pub mod QuestionAnswers
pub mod SameGroups
mod Spread
mod Members
mod Moves
mod Points
mod Amounts
mod Connected
mod Forms
mod Weights
mod Shares
pub mod Furthest
pub mod Best
mod OwnGroup
mod CutOff
mod ProblemSizes
mod OneAnswer
mod WholeAnswers
mod WholeEnds
mod EndCauses
mod WalkAnswers
mod Outcomes
mod Selecting
mod SmallerProblems
mod SmallerMultipliers
mod FewerQuestions
mod LexSigns
mod MoveRows
mod MoveWeights
mod MoveSums
mod MovePairs
mod MoveStops
mod Reaching
