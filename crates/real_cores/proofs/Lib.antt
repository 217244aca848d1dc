pub mod RealCores
