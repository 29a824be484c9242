-- What clocks that drift ask of wires and streams, and keep of labels.
pub mod Drift
pub mod Laws
