pub mod Restart
pub mod Demand
pub mod Operator
pub mod Budget
